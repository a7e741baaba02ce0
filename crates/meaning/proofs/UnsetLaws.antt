-- Laws of unsetting the cells of variables, cell by cell.
use mathlib.Core.Path.{◌≡◌, refl, sym, ap, ap₂, ◌∙◌}
use mathlib.Core.Bool.{Bool, true, false, ◌||◌, or_assoc, or_comm, false≢true}
use mathlib.Core.Option.{none}
use mathlib.Core.List.Memᴰ
use mathlib.Core.List.{List, [], ◌∷◌, ◌++◌, Memᴰ}
use Prim.Native.Nat.{ℕ, zero, suc}
use lib.ListN.{length, get_or, set, length-set, replicate}
use lib.Seq.{ext_get_or, get_or-set_other, set_comm}
use lib.Dec.{eqb}
use borrow.Author.Tests.{eq-eqb, eqb-true, eqb-false}
use Rattle.meaning.specs.Basics.{if_else, any_passes, among}
use Rattle.meaning.specs.Declarations.{Variable}
use Rattle.meaning.specs.Usage.{numbers_from, cells_of_variable, cells_of_all}
use Rattle.meaning.specs.Values.{Message}
use Rattle.meaning.proofs.NoFault.{or-false, or_turn}
use Rattle.meaning.specs.State.{Store, Write, write_cell, write_place, write_output, write, write_all, unset_from, unset, unset_all}

-- Which cells -------------------------------------------------------------------------------------------------------------------

-- whether a cell is one of these variables
abbrev pub holds_cell : ℕ → List Variable → Bool
holds_cell a vs = among a (cells_of_all vs)

-- a number in one list or another
pub among-append : (x : ℕ) (l m : List ℕ) → among x (l ++ m) ≡ (among x l || among x m)
unfolding any_passes
among-append x [] m = refl
among-append x (y ∷ l) m = ap (λ (t : Bool). eqb x y || t) (among-append x l m) ∙ sym (or_assoc (eqb x y) (among x l) (among x m))

pub holds-first : (a : ℕ) (v : Variable) (vs : List Variable) → holds_cell a (v ∷ vs) ≡ (among a (cells_of_variable v) || holds_cell a vs)
holds-first a v vs = among-append a (cells_of_variable v) (cells_of_all vs)

pub holds-append : (a : ℕ) (vs us : List Variable) → holds_cell a (vs ++ us) ≡ (holds_cell a vs || holds_cell a us)
unfolding any_passes
holds-append a [] us = refl
holds-append a (v ∷ vs) us =
    let n = among a (cells_of_variable v) in
    holds-first a v (vs ++ us) ∙ ap (λ (t : Bool). n || t) (holds-append a vs us) ∙ sym (or_assoc n (holds_cell a vs) (holds_cell a us))
    ∙ ap (λ (t : Bool). t || holds_cell a us) (sym (holds-first a v vs))

-- the cells of ws are those of us and those of vs
pub record Joined (us vs ws : List Variable) : Type 0 where
  pub cell : (a : ℕ) → (holds_cell a us || holds_cell a vs) ≡ holds_cell a ws

pub joined-left : {us : List Variable} (ws : List Variable) → us ≡ [] → Joined us ws ws
unfolding any_passes
joined-left ws e = record { cell = λ a. rw e }

pub joined-right : {vs : List Variable} (ws : List Variable) → vs ≡ [] → Joined ws vs ws
joined-right {vs} ws e = record { cell = λ a. or_comm (holds_cell a ws) (holds_cell a vs) ∙ (joined-left ws e).cell a }

pub joined-append : {us vs ws us' vs' ws' : List Variable} → Joined us vs ws → Joined us' vs' ws' → Joined (us ++ us') (vs ++ vs') (ws ++ ws')
joined-append {us} {vs} {ws} {us'} {vs'} {ws'} h k = record {
  cell = λ a. ap₂ (λ (s t : Bool). s || t) (holds-append a us us') (holds-append a vs vs')
      ∙ or_turn (holds_cell a us) (holds_cell a us') (holds_cell a vs) (holds_cell a vs')
      ∙ ap₂ (λ (s t : Bool). s || t) (h.cell a) (k.cell a)
      ∙ sym (holds-append a ws ws');
}

-- three in turn
pub joined-then : {us vs ws xs ys zs : List Variable} → Joined xs us ys → Joined us vs ws → Joined xs ws zs → Joined ys vs zs
joined-then {us} {vs} {ws} {xs} h k l = record {
  cell = λ a. ap (λ (t : Bool). t || holds_cell a vs) (sym (h.cell a)) ∙ or_assoc (holds_cell a xs) (holds_cell a us) (holds_cell a vs)
      ∙ ap (λ (t : Bool). holds_cell a xs || t) (k.cell a) ∙ l.cell a;
}

-- the test is membership
pub among-mem : (x : ℕ) (l : List ℕ) → among x l ≡ true → Memᴰ x l
unfolding any_passes
among-mem x [] e = absurd (false≢true e)
among-mem x (y ∷ l) e = go (eqb x y) refl e (among-mem x l)
  where
    go : (t : Bool) → eqb x y ≡ t → (t || among x l) ≡ true → (among x l ≡ true → Memᴰ x l) → Memᴰ x (y ∷ l)
    go true q f g = Memᴰ.head (eqb-true x y q)
    go false q f g = Memᴰ.tail (g f)

pub mem-among : (x : ℕ) (l : List ℕ) → Memᴰ x l → among x l ≡ true
unfolding any_passes
mem-among x [] h = absurd (Memᴰ.not-nil h)
mem-among x (y ∷ l) (Memᴰ.head e) = ap (λ (t : Bool). t || among x l) (eq-eqb x y e)
mem-among x (y ∷ l) (Memᴰ.tail h) = go (eqb x y) (mem-among x l h)
  where
    go : (t : Bool) → among x l ≡ true → (t || among x l) ≡ true
    go true e = refl
    go false e = e

pub not-among : (x : ℕ) (l : List ℕ) → ¬ Memᴰ x l → among x l ≡ false
not-among x l h = go (among x l) refl
  where
    go : (t : Bool) → among x l ≡ t → t ≡ false
    go true e = absurd (h (among-mem x l e))
    go false e = refl

-- Unsetting, cell by cell ---------------------------------------------------------------------------------------------------------

-- a cell that is made unset is unset; past the end there is none
pub cell-set-same : (l : List Message) (a : ℕ) → get_or (set l a none) a none ≡ none
cell-set-same [] a = refl
cell-set-same (m ∷ l) zero = refl
cell-set-same (m ∷ l) (suc a) = cell-set-same l a

pub length-unset_from : (a n : ℕ) (l : List Message) → length (unset_from a n l) ≡ length l
length-unset_from a zero l = refl
length-unset_from a (suc n) l = length-unset_from (suc a) n (set l a none) ∙ length-set l a none

none-either : (t : Bool) (m : Message) → m ≡ none → if_else t none m ≡ none
none-either true m e = refl
none-either false m e = e

pub cell-unset_from : (f n : ℕ) (l : List Message) (a : ℕ) → get_or (unset_from f n l) a none ≡ if_else (among a (numbers_from f n)) none (get_or l a none)
unfolding any_passes numbers_from
cell-unset_from f zero l a = refl
cell-unset_from f (suc n) l a = cell-unset_from (suc f) n (set l f none) a ∙ go (eqb a f) refl
  where
    others : Bool
    others = among a (numbers_from (suc f) n)

    go : (t : Bool) → eqb a f ≡ t → if_else others none (get_or (set l f none) a none) ≡ if_else (t || others) none (get_or l a none)
    go true e = none-either others (get_or (set l f none) a none) (rw (eqb-true a f e) (cell-set-same l f))
    go false e = ap (λ (m : Message). if_else others none m) (get_or-set_other l f a none none (eqb-false a f e))

pub length-unset_all : (vs : List Variable) (x : Store) → length (unset_all vs x).cells ≡ length x.cells
length-unset_all [] x = refl
length-unset_all (v ∷ vs) x = length-unset_all vs (unset v x) ∙ length-unset_from v.first v.size x.cells

pub places-unset_all : (vs : List Variable) (x : Store) → (unset_all vs x).places ≡ x.places
places-unset_all [] x = refl
places-unset_all (v ∷ vs) x = places-unset_all vs (unset v x)

pub outputs-unset_all : (vs : List Variable) (x : Store) → (unset_all vs x).outputs ≡ x.outputs
outputs-unset_all [] x = refl
outputs-unset_all (v ∷ vs) x = outputs-unset_all vs (unset v x)

either-either : (s t : Bool) (m : Message) → if_else t none (if_else s none m) ≡ if_else (s || t) none m
either-either true t m = none-either t none refl
either-either false t m = refl

pub cell-unset_all : (vs : List Variable) (x : Store) (a : ℕ) → get_or (unset_all vs x).cells a none ≡ if_else (holds_cell a vs) none (get_or x.cells a none)
unfolding any_passes
cell-unset_all [] x a = refl
cell-unset_all (v ∷ vs) x a =
    let n = among a (cells_of_variable v) in
    cell-unset_all vs (unset v x) a
    ∙ ap (λ (m : Message). if_else (holds_cell a vs) none m) (cell-unset_from v.first v.size x.cells a)
    ∙ either-either n (holds_cell a vs) (get_or x.cells a none)
    ∙ ap (λ (t : Bool). if_else t none (get_or x.cells a none)) (sym (holds-first a v vs))

-- a cell of these variables is unset, another as it was
pub cell-held : (vs : List Variable) (x : Store) (a : ℕ) → holds_cell a vs ≡ true → get_or (unset_all vs x).cells a none ≡ none
cell-held vs x a e = cell-unset_all vs x a ∙ ap (λ (t : Bool). if_else t none (get_or x.cells a none)) e

pub cell-kept : (vs : List Variable) (x : Store) (a : ℕ) → holds_cell a vs ≡ false → get_or (unset_all vs x).cells a none ≡ get_or x.cells a none
cell-kept vs x a e = cell-unset_all vs x a ∙ ap (λ (t : Bool). if_else t none (get_or x.cells a none)) e

-- Equal stores --------------------------------------------------------------------------------------------------------------------

pub same_store : (x y : Store) → length x.cells ≡ length y.cells → ((a : ℕ) → get_or x.cells a none ≡ get_or y.cells a none)
    → x.places ≡ y.places → x.outputs ≡ y.outputs → x ≡ y
same_store x y l c p o = go (ext_get_or none x.cells y.cells l (λ a h. c a)) p o
  where
    go : {k m : List Message} {q r : List ℕ} {u w : List (List Message)} → k ≡ m → q ≡ r → u ≡ w
        → ◌≡◌ {A = Store} (record { cells = k; places = q; outputs = u }) (record { cells = m; places = r; outputs = w })
    go e f g = rw (e, f, g)

-- the cells of the variables decide
pub unset-same : (vs us : List Variable) (x : Store) → ((a : ℕ) → holds_cell a vs ≡ holds_cell a us) → unset_all vs x ≡ unset_all us x
unset-same vs us x h = same_store (unset_all vs x) (unset_all us x) (length-unset_all vs x ∙ sym (length-unset_all us x))
    (λ a. cell-unset_all vs x a ∙ ap (λ (t : Bool). if_else t none (get_or x.cells a none)) (h a) ∙ sym (cell-unset_all us x a))
    (places-unset_all vs x ∙ sym (places-unset_all us x)) (outputs-unset_all vs x ∙ sym (outputs-unset_all us x))

pub unset-append : (vs us : List Variable) (x : Store) → unset_all (vs ++ us) x ≡ unset_all us (unset_all vs x)
unset-append [] us x = refl
unset-append (v ∷ vs) us x = unset-append vs us (unset v x)

-- to unset the cells of vs, then those of us, is to unset those of both
pub unset-both : (us vs ws : List Variable) (x : Store) → ((a : ℕ) → (holds_cell a us || holds_cell a vs) ≡ holds_cell a ws) → unset_all us (unset_all vs x) ≡ unset_all ws x
unset-both us vs ws x h = sym (unset-append vs us x) ∙ unset-same (vs ++ us) ws x (λ a. holds-append a vs us ∙ or_comm (holds_cell a vs) (holds_cell a us) ∙ h a)

-- where the cells of these variables are unset already nothing changes
pub unset-unset : (vs : List Variable) (x : Store) → ((a : ℕ) → holds_cell a vs ≡ true → get_or x.cells a none ≡ none) → unset_all vs x ≡ x
unset-unset vs x h = same_store (unset_all vs x) x (length-unset_all vs x) (λ a. cell-unset_all vs x a ∙ go a (holds_cell a vs) refl) (places-unset_all vs x) (outputs-unset_all vs x)
  where
    go : (a : ℕ) (t : Bool) → holds_cell a vs ≡ t → if_else t none (get_or x.cells a none) ≡ get_or x.cells a none
    go a true e = sym (h a e)
    go a false e = refl

pub all-unset : (n a : ℕ) → get_or (replicate {A = Message} n none) a none ≡ none
all-unset zero a = refl
all-unset (suc n) zero = refl
all-unset (suc n) (suc a) = all-unset n a

-- Writes --------------------------------------------------------------------------------------------------------------------------

-- the write is of no cell of these variables
abbrev pub WriteOff : List Variable → Write → Type 0
WriteOff vs (write_cell a m) = holds_cell a vs ≡ false
WriteOff vs (write_place a n) = Unit {0}
WriteOff vs (write_output a l) = Unit {0}

abbrev pub WritesOff : List Variable → List Write → Type 0
WritesOff vs [] = Unit {0}
WritesOff vs (w ∷ ws) = WriteOff vs w × WritesOff vs ws

unset_from-set : (f n : ℕ) (l : List Message) (a : ℕ) (m : Message) → among a (numbers_from f n) ≡ false → unset_from f n (set l a m) ≡ set (unset_from f n l) a m
unfolding any_passes numbers_from
unset_from-set f zero l a m e = refl
unset_from-set f (suc n) l a m e =
    let (e1, e2) = or-false (eqb a f) (among a (numbers_from (suc f) n)) e in
    ap (unset_from (suc f) n) (set_comm l a f m none (eqb-false a f e1)) ∙ unset_from-set (suc f) n (set l f none) a m e2

-- it commutes with unsetting them
pub unset-write : (vs : List Variable) (w : Write) (x : Store) → WriteOff vs w → unset_all vs (write w x) ≡ write w (unset_all vs x)
unset-write [] w x h = refl
unset-write (v ∷ vs) (write_cell a m) x h =
    let (h1, h2) = or-false (among a (cells_of_variable v)) (holds_cell a vs) (sym (holds-first a v vs) ∙ h) in
    ap (λ (l : List Message). unset_all vs (record { cells = l; places = x.places; outputs = x.outputs })) (unset_from-set v.first v.size x.cells a m h1)
    ∙ unset-write vs (write_cell a m) (unset v x) h2
unset-write (v ∷ vs) (write_place a n) x h = unset-write vs (write_place a n) (unset v x) h
unset-write (v ∷ vs) (write_output a l) x h = unset-write vs (write_output a l) (unset v x) h

pub unset-writes : (vs : List Variable) (ws : List Write) (x : Store) → WritesOff vs ws → unset_all vs (write_all ws x) ≡ write_all ws (unset_all vs x)
unset-writes vs [] x h = refl
unset-writes vs (w ∷ ws) x h = unset-writes vs ws (write w x) h.1 ∙ ap (write_all ws) (unset-write vs w x h.0)
