-- Strips of output messages: how long they are together, and that one more message changes one place, its strip's first free one.
use mathlib.Core.Path.{◌≡◌, refl, sym, ap, ap₂, ◌∙◌}
use mathlib.Core.Option.{none}
use mathlib.Core.List.{List, [], ◌∷◌, ◌++◌}
use Prim.Native.Nat.{ℕ, zero, suc, ◌+◌, ◌<◌, ◌≤◌}
use native.Mathlib.Omega.{arith}
use lib.ListN.{length, get_or, set, take, replicate, length-append, replicate-append-replicate}
use lib.Seq.{set-append_left}
use Rattle.meaning.specs.Values.{Message}
use Rattle.meaning.specs.Buffers.{sized, strips}
use Rattle.meaning.proofs.LentLaws.{sized-length, sized-defaults, sized-more}
use Rattle.machine.specs.Held.{sum_of}
use Rattle.machine.proofs.Lists.{set_append_right}

-- a strip ends within all strips
pub strip-within : (caps : List ℕ) (p : ℕ) → p < length caps → sum_of (take p caps) + get_or caps p 0 ≤ sum_of caps
strip-within [] p h = absurd (omega arith)
strip-within (n ∷ ns) zero h = omega arith
strip-within (n ∷ ns) (suc p) h = let k = strip-within ns p (omega arith) in omega arith

-- the strips together are as long as the capacities
pub strips-length : (caps : List ℕ) (outs : List (List Message)) → length caps ≡ length outs → length (strips caps outs) ≡ sum_of caps
unfolding strips
strips-length [] outs h = refl
strips-length (n ∷ ns) [] h = absurd (omega arith)
strips-length (n ∷ ns) (l ∷ outs) h =
    let a = length-append (sized n none l) (strips ns outs) in
    let b = sized-length none n l in
    let c = strips-length ns outs (omega arith) in
    omega arith

-- one more message for channel p, which has been given l
pub strips-more : (caps : List ℕ) (outs : List (List Message)) (p : ℕ) (l : List Message) (m : Message) → length caps ≡ length outs → p < length outs → get_or outs p [] ≡ l → length l < get_or caps p 0
    → strips caps (set outs p (l ++ (m ∷ []))) ≡ set (strips caps outs) (sum_of (take p caps) + length l) m
unfolding strips
strips-more [] outs p l m h k e c = absurd (omega arith)
strips-more (n ∷ ns) [] p l m h k e c = absurd (omega arith)
strips-more (n ∷ ns) (x ∷ outs) zero l m h k e c =
    let z : length x ≡ length l = ap (λ (y : List Message). length y) e in
    let s = sized n none x in
    ap (λ (y : List Message). y ++ strips ns outs) (ap (λ (y : List Message). sized n none (y ++ (m ∷ []))) (sym e) ∙ sized-more none n m x (omega arith))
    ∙ sym (set-append_left s (strips ns outs) (length x) m (omega (arith, sized-length none n x)))
    ∙ ap (λ (i : ℕ). set (s ++ strips ns outs) i m) (omega arith)
strips-more (n ∷ ns) (x ∷ outs) (suc p) l m h k e c =
    let s = sized n none x in
    let z = sized-length none n x in
    ap (λ (y : List Message). s ++ y) (strips-more ns outs p l m (omega arith) (omega arith) e c)
    ∙ sym (set_append_right s (strips ns outs) (sum_of (take p ns) + length l) m)
    ∙ ap (λ (i : ℕ). set (s ++ strips ns outs) i m) (omega arith)

-- strips of channels that have been given nothing hold none
pub strips-empty : (caps : List ℕ) (k : ℕ) → (q : ℕ) × (strips caps (replicate k []) ≡ replicate q none)
unfolding strips
strips-empty [] k = (0, refl)
strips-empty (n ∷ ns) zero = (0, refl)
strips-empty (n ∷ ns) (suc k) =
    let (q, e) = strips-empty ns k in
    (n + q, ap₂ (λ (a b : List Message). a ++ b) (sized-defaults none n 0) e ∙ replicate-append-replicate n q none)
