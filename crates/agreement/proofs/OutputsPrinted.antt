-- Each line of a host output is of one message of its channel's list, its field empty exactly if the message's mark is 0; and each message has its line.
use mathlib.Core.Path.{◌≡◌, sym, ap, subst, ◌∙◌}
use mathlib.Core.Logic.{⊎_elim, ◌↔◌}
use mathlib.Core.Option.{none, some}
use mathlib.Core.List.Memᴰ
use mathlib.Core.List.{List, [], ◌∷◌, Memᴰ}
use Prim.Native.Nat.{ℕ, zero, suc, ◌+◌, ◌<◌}
use native.Mathlib.Nat.{zero-add}
use native.Mathlib.Omega.{arith}
use lib.IntN.{ℤ}
use lib.ListN.{length, get_or, length-map, get_elem?}
use Rattle.meaning.specs.Declarations.{sum_below, host_channels_at, capacity_at, channels}
use Rattle.meaning.specs.Values.{Message}
use Rattle.meaning.specs.State.{State}
use Rattle.meaning.specs.Readings.{Sheet}
use Rattle.meaning.specs.Buffers.{Buffers, mark, encode}
use Rattle.meaning.specs.Answers.{check}
use Rattle.meaning.specs.Printing.{out_word, Line, line, numbered, cell_lines, out_lines, stop_lines, end_lines, value_bytes}
use Rattle.meaning.proofs.LentLaws.{entry_at, entry-is}
use Rattle.agreement.specs.Statements.{Reached}
use Rattle.agreement.specs.BufferClaims.{HoldsAt, ToHost, strip_begins, list_in}
use Rattle.agreement.specs.MissingClaims.{OutputLines, OutputsPrinted}
use Rattle.agreement.proofs.AsDeclared.{reached-as-declared}
use Rattle.agreement.proofs.HostOutputs.{output-count, channel-row}
use Rattle.agreement.proofs.TableLimits.{limited}
use Rattle.agreement.proofs.BuffersHold.{message-is}
use Rattle.agreement.proofs.BuffersExact.{lists-fit}
use Rattle.agreement.proofs.MissingPrinted.{printed-empty, numbered-line, line-numbered, among-outputs}

-- a member of a list, by its place
place_of : (l : List ℕ) (x : ℕ) → Memᴰ x l → (j : ℕ) × (j < length l) × (get_or l j 0 ≡ x)
place_of [] x x3 = elim x3 [ ]
place_of (y ∷ l) x (Memᴰ.head e) = (0, omega arith, sym e)
place_of (y ∷ l) x (Memᴰ.tail m) = let (j, h, e) = place_of l x m in (suc j, omega arith, e)

-- a line of the outputs: of message j in the list of channel number p
record OutputOf (cs : List ℕ) (xss : List (List Message)) (l : Line) : Type 0 where
  p : ℕ
  j : ℕ
  channel : p < length cs
  message : j < length (get_or xss p [])
  is : l ≡ line out_word (get_or cs p 0) j (get_or (get_or xss p []) j none)

output-line : (cs : List ℕ) (xss : List (List Message)) (l : Line) → Memᴰ l (out_lines cs xss) → OutputOf cs xss l
unfolding out_lines
output-line [] xss l m = absurd (elim m [ ])
output-line (c ∷ cs) [] l m = absurd (elim m [ ])
output-line (c ∷ cs) (xs ∷ xss) l m = ⊎_elim first (λ k. later (output-line cs xss l k)) (Memᴰ.append_cases (numbered out_word c 0 xs) m)
  where
    first : Memᴰ l (numbered out_word c 0 xs) → OutputOf (c ∷ cs) (xs ∷ xss) l
    first h = let (j, g, e) = numbered-line out_word c 0 xs l h in record { p = 0; j = j; channel = omega arith; message = g; is = rw (zero-add j) at e }

    later : OutputOf cs xss l → OutputOf (c ∷ cs) (xs ∷ xss) l
    later o = record { p = suc o.p; j = o.j; channel = let h = o.channel in omega arith; message = o.message; is = o.is }

-- and each message has its line
line-output : (cs : List ℕ) (xss : List (List Message)) (p j : ℕ) → p < length cs → p < length xss → j < length (get_or xss p [])
    → Memᴰ (line out_word (get_or cs p 0) j (get_or (get_or xss p []) j none)) (out_lines cs xss)
unfolding out_lines
line-output [] xss p j h k g = absurd (omega arith)
line-output (c ∷ cs) [] p j h k g = absurd (omega arith)
line-output (c ∷ cs) (xs ∷ xss) zero j h k g =
    Memᴰ.append_left (out_lines cs xss) (rw (zero-add j) at (line-numbered out_word c 0 xs j g))
line-output (c ∷ cs) (xs ∷ xss) (suc p) j h k g = Memᴰ.append_right (numbered out_word c 0 xs) (line-output cs xss p j (omega arith) (omega arith) g)

-- the mark of a message in the lent buffers, and its printed field
empty-field : (rows : List ℤ) (sheet : Sheet) (s : State) → check rows ≡ none → Reached rows sheet s → (b : Buffers) (c j : ℕ) (m : Message)
    → ToHost rows c → HoldsAt (list_in rows c s) j m → (value_bytes m ≡ []) ↔ (get_or (encode rows s b).output_marks (strip_begins rows c + j) 0 ≡ 0)
empty-field rows sheet s ok h b c j m o k =
    let held = (message-is rows s (limited rows ok) (reached-as-declared rows sheet s ok h) (lists-fit rows sheet s ok h) b c o j m k).1 in
    let q : get_or (encode rows s b).output_marks (strip_begins rows c + j) 0 ≡ mark m = (entry-is (encode rows s b).output_marks (strip_begins rows c + j) 0 (mark m) held).1 in
    (λ e. q ∙ (printed-empty m).0 e, λ e. (printed-empty m).1 (sym q ∙ e))

pub output-lines : OutputLines
output-lines rows sheet r ok h l m w =
    subst Stands (sym o.is)
    (holds, λ b. empty-field rows sheet r.state ok h b c o.j (get_or (get_or outs o.p []) o.j none) role holds)
  where
    outs : List (List Message)
    outs = r.state.store.outputs

    Stands : Line → Type 0
    Stands k =
        (get_elem? (get_or outs (sum_below (host_channels_at 2 rows) k.name) []) k.at ≡ some k.value)
        × ((b : Buffers) → (value_bytes k.value ≡ []) ↔ (get_or (encode rows r.state b).output_marks (sum_below (capacity_at rows) k.name + k.at) 0 ≡ 0))

    o : OutputOf (channels rows 2) outs l
    o = output-line (channels rows 2) outs l (among-outputs rows r l m w)

    c : ℕ
    c = get_or (channels rows 2) o.p 0

    role : ToHost rows c
    role = (channel-row rows o.p o.channel).0

    holds : HoldsAt (list_in rows c r.state) o.j (get_or (get_or outs o.p []) o.j none)
    holds =
        ap (λ (p : ℕ). get_elem? (get_or outs p []) o.j) (channel-row rows o.p o.channel).1
        ∙ entry_at (get_or outs o.p []) o.j none o.message

pub outputs-printed : OutputsPrinted
unfolding end_lines
outputs-printed rows sheet r ok h c i m k e =
    Memᴰ.append_left (stop_lines 0 r.state.states) (Memᴰ.append_right (_ ∷ cell_lines rows r.state.store.cells) printed)
  where
    outs : List (List Message)
    outs = r.state.store.outputs

    at : (j : ℕ) × (j < length (channels rows 2)) × (get_or (channels rows 2) j 0 ≡ c)
    at = place_of (channels rows 2) c k

    number : sum_below (host_channels_at 2 rows) c ≡ at.0
    number = ap (sum_below (host_channels_at 2 rows)) (sym at.2) ∙ (channel-row rows at.0 at.1).1

    held : (i < length (get_or outs at.0 [])) × (get_or (get_or outs at.0 []) i none ≡ m)
    held = entry-is (get_or outs at.0 []) i none m (subst (λ (p : ℕ). get_elem? (get_or outs p []) i ≡ some m) number e)

    printed : Memᴰ (line out_word c i m) (out_lines (channels rows 2) outs)
    printed =
        Memᴰ.cast (ap (λ (v : ℕ). line out_word v i m) (sym at.2) ∙ ap (line out_word (get_or (channels rows 2) at.0 0) i) (sym held.1))
        (line-output (channels rows 2) outs at.0 i at.1
        (omega (arith, at.1, output-count rows, length-map (channels rows 2) (capacity_at rows), (reached-as-declared rows sheet r.state ok h).outputs)) held.0)
