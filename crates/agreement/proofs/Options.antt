-- The options of an ALT have ascending rows, in every table: "next" goes to a higher row. So what they offer is told apart by row.
use mathlib.Core.Path.{◌≡◌, refl}
use mathlib.Core.Bool.{Bool, true, false}
use mathlib.Core.Option.{Option, none, some}
use mathlib.Core.List.{List, [], ◌∷◌, Memᴰ}
use Prim.Native.Nat.{ℕ, zero, suc, ◌-◌, ◌<◌, ◌≤◌}
use native.Mathlib.Omega.{arith}
use native.Mathlib.Decide.{dec_lt}
use lib.IntN.{ℤ}
use lib.ListN.{get_or-map}
use lib.Dec.{ltb}
use borrow.Author.Tests.{ltb-true}
use Rattle.meaning.specs.declared.Value.{Value}
use Rattle.meaning.specs.declared.Value.TheVariants.{Number, Missing}
use Rattle.meaning.specs.declared.Node.{Node}
use Rattle.meaning.specs.declared.Node.TheVariants.{Literal, Element, Monadic, Dyadic, Stop, Skip, Assignment, Input, Output, Seq, Par, If, While, Alt, Block, Member, Choice, OptionRow, Guard, Other}
use Rattle.meaning.specs.Basics.{if_else}
use Rattle.meaning.specs.Rows.{row_count}
use Rattle.meaning.specs.Nodes.{node_at}
use Rattle.meaning.specs.HigherRows.{last_rows, at_row}
use Rattle.meaning.proofs.HigherRows.{at_row-at, at_row-past}
use Rattle.meaning.specs.Tree.{AltOption, Action, stop, skip, sequence, parallel, assign, input, output, conditional, loop, alternation, block, Process, Content, no_content, content_of, contents, or_stop, action_of}
use Rattle.meaning.specs.Values.{is_true, value}
use Rattle.meaning.specs.State.{Store, program, process_at}
use Rattle.meaning.specs.Readings.{Sheet}
use Rattle.meaning.specs.Intent.{Offer, open_offer, input_offer, InputResult, lacks, not_yet, reads, from_element, OptionsResult, fails, offers, adding, admitting, opening, guarding, input_result_if, options_result}
use Rattle.meaning.specs.Ready.{option_row}
use Rattle.agreement.proofs.Readiness.{Distinct}

-- rows from lo on and below n, each higher than the one before it
abbrev pub Rising : ℕ → ℕ → List AltOption → Type 0
Rising n lo [] = Unit {0}
Rising n lo (b ∷ l) = (lo ≤ b.row) × (b.row < n) × Rising n (suc b.row) l

lower : (n lo hi : ℕ) (l : List AltOption) → lo ≤ hi → Rising n hi l → Rising n lo l
lower n lo hi [] h r = tt
lower n lo hi (b ∷ l) h r = (omega (arith, r.0), r.1, r.2)

-- the same of offers
abbrev pub RisingO : ℕ → ℕ → List Offer → Type 0
RisingO n lo [] = Unit {0}
RisingO n lo (o ∷ l) = (lo ≤ option_row o) × (option_row o < n) × RisingO n (suc (option_row o)) l

lower_o : (n lo hi : ℕ) (l : List Offer) → lo ≤ hi → RisingO n hi l → RisingO n lo l
lower_o n lo hi [] h r = tt
lower_o n lo hi (o ∷ l) h r = (omega (arith, r.0), r.1, r.2)

-- ---- the table's parts

abbrev pub ActionOk : ℕ → Action → Type 0
ActionOk n stop = Unit {0}
ActionOk n skip = Unit {0}
ActionOk n sequence = Unit {0}
ActionOk n parallel = Unit {0}
ActionOk n (assign v e f) = Unit {0}
ActionOk n (input i) = Unit {0}
ActionOk n (output c e f) = Unit {0}
ActionOk n (conditional ts) = Unit {0}
ActionOk n (loop e b) = Unit {0}
ActionOk n (alternation bs) = Rising n 0 bs
ActionOk n (block v) = Unit {0}

abbrev ProcessOk : ℕ → Option Process → Type 0
ProcessOk n none = Unit {0}
ProcessOk n (some p) = ActionOk n (action_of p)

-- the options that begin at row r rise from it; those of the process at row r rise
abbrev PartOk : ℕ → ℕ → Content → Type 0
PartOk n r p = Rising n r p.options × ProcessOk n p.process

module _ (rows : List ℤ) where
  part-ok : (r : ℕ) (at : ℕ → Content) → r < row_count rows → ((b : ℕ) → Rising (row_count rows) (suc r) (at b).options) → (k : Node) → PartOk (row_count rows) r (content_of rows r at k)
  part-ok r at l h (Literal x) = (tt, tt)
  part-ok r at l h (Element a b) = (tt, tt)
  part-ok r at l h (Monadic a b) = (tt, tt)
  part-ok r at l h (Dyadic a b c) = (tt, tt)
  part-ok r at l h Stop = (tt, tt)
  part-ok r at l h Skip = (tt, tt)
  part-ok r at l h (Assignment a b c) = (tt, tt)
  part-ok r at l h (Input a b c) = (tt, tt)
  part-ok r at l h (Output a b c) = (tt, tt)
  part-ok r at l h (Seq a) = (tt, tt)
  part-ok r at l h (Par a) = (tt, tt)
  part-ok r at l h (If a) = (tt, tt)
  part-ok r at l h (While a b) = (tt, tt)
  part-ok r at l h (Alt a) = (tt, lower (row_count rows) 0 (suc r) (at a).options (omega arith) (h a))
  part-ok r at l h (Block a b) = (tt, tt)
  part-ok r at l h (Member a b) = (tt, tt)
  part-ok r at l h (Choice a b c) = (tt, tt)
  part-ok r at l h (OptionRow a b c) = ((omega arith, l, h b), tt)
  part-ok r at l h (Guard a b) = (tt, tt)
  part-ok r at l h Other = (tt, tt)

  abbrev step : ℕ → (ℕ → Content) → Content
  step r at = content_of rows r at (node_at rows r)

  above : (r : ℕ) → ((b : ℕ) → r < b → Rising (row_count rows) b (at_row no_content step (row_count rows) b).options) → (b : ℕ) (t : Bool) → ltb r b ≡ t → Rising (row_count rows) (suc r) (if_else t (at_row no_content step (row_count rows) b) no_content).options
  above r f b true e = lower (row_count rows) (suc r) b (at_row no_content step (row_count rows) b).options (ltb-true r b e) (f b (ltb-true r b e))
  above r f b false e = tt

  here : (r : ℕ) → Dec (r < row_count rows) → ((b : ℕ) → r < row_count rows → r < b → Rising (row_count rows) b (at_row no_content step (row_count rows) b).options) → PartOk (row_count rows) r (at_row no_content step (row_count rows) r)
  here r (yes l) f = rw (at_row-at no_content step (row_count rows) r l) (part-ok r (λ b. if_else (ltb r b) (at_row no_content step (row_count rows) b) no_content) l (λ b. above r (λ c. f c l) b (ltb r b) refl) (node_at rows r))
  here r (no l) f = rw (at_row-past no_content step (row_count rows) r (omega arith)) (tt, tt)

  -- every part, by the distance to the table's end
  every : (k r : ℕ) → row_count rows - r ≤ k → PartOk (row_count rows) r (at_row no_content step (row_count rows) r)
  every zero r h = rw (at_row-past no_content step (row_count rows) r (omega arith)) (tt, tt)
  every (suc k) r h = here r (dec_lt r (row_count rows)) (λ b l m. (every k b (omega arith)).0)

  process-is : (r : ℕ) → process_at (program rows) r ≡ or_stop (at_row no_content step (row_count rows) r).process
  unfolding process_at program contents at_row
  process-is r = get_or-map (λ (p : Content). or_stop p.process) (last_rows no_content step (row_count rows) (row_count rows)) r no_content

  or-stop : (n : ℕ) (o : Option Process) → ProcessOk n o → ActionOk n (action_of (or_stop o))
  or-stop n none h = tt
  or-stop n (some p) h = h

  -- the options of the process at a row rise
  pub options-rise : (r : ℕ) → ActionOk (row_count rows) (action_of (process_at (program rows) r))
  options-rise r = rw (process-is r) (or-stop (row_count rows) (at_row no_content step (row_count rows) r).process (every (row_count rows - r) r (omega arith)).1)

-- ---- what options offer

module _ (sheet : Sheet) (x : Store) (n : ℕ) where
  abbrev pub LookedOk : ℕ → OptionsResult → Type 0
  LookedOk lo (fails k) = Unit {0}
  LookedOk lo (offers os) = RisingO n lo os

  weaken : (lo hi : ℕ) (L : OptionsResult) → lo ≤ hi → LookedOk hi L → LookedOk lo L
  weaken lo hi (fails k) h r = tt
  weaken lo hi (offers os) h r = lower_o n lo hi os h r

  add_ok : (lo : ℕ) (o : Offer) (L : OptionsResult) → lo ≤ option_row o → option_row o < n → LookedOk (suc (option_row o)) L → LookedOk lo (adding o L)
  add_ok lo o (fails k) a b h = tt
  add_ok lo o (offers os) a b h = (a, b, h)

  admit-ok : (lo j q : ℕ) (R : InputResult) (L : OptionsResult) → lo ≤ j → j < n → LookedOk (suc j) L → LookedOk lo (admitting j q R L)
  admit-ok lo j q (lacks k) L a b h = tt
  admit-ok lo j q not_yet L a b h = weaken lo (suc j) L (omega arith) h
  admit-ok lo j q (reads ws) L a b h = add_ok lo (open_offer j q ws) L a b h
  admit-ok lo j q (from_element e c) L a b h = add_ok lo (input_offer j q e c) L a b h

  open-ok : (lo j q : ℕ) (i : Option InputResult) (L : OptionsResult) → lo ≤ j → j < n → LookedOk (suc j) L → LookedOk lo (opening j q i L)
  open-ok lo j q none L a b h = add_ok lo (open_offer j q []) L a b h
  open-ok lo j q (some R) L a b h = admit-ok lo j q R L a b h

  guard_ok : (lo j q : ℕ) (w : Value) (i : Option InputResult) (L : OptionsResult) → lo ≤ j → j < n → LookedOk (suc j) L → LookedOk lo (guarding j q w i L)
  guard_ok lo j q (Missing k) i L a b h = tt
  guard_ok lo j q (Number z) i L a b h = go (is_true z)
    where
      go : (t : Bool) → LookedOk lo (if_else t (opening j q i L) L)
      go true = open-ok lo j q i L a b h
      go false = weaken lo (suc j) L (omega arith) h

  pub looks-ok : (lo : ℕ) (l : List AltOption) → Rising n lo l → LookedOk lo (options_result sheet l x)
  looks-ok lo [] r = tt
  looks-ok lo (b ∷ l) r = guard_ok lo b.row b.process (value x.cells b.guard.boolean) (input_result_if sheet b.guard.input x) (options_result sheet l x) r.0 r.1 (looks-ok (suc b.row) l r.2)

-- rising rows are each another, and all below n
floor : (n lo : ℕ) (l : List Offer) → RisingO n lo l → (p : Offer) → Memᴰ p l → (lo ≤ option_row p) × (option_row p < n)
floor n lo [] r p x'' = elim x'' [ ]
floor n lo (o ∷ l) r p (Memᴰ.head e) = rw e (r.0, r.1)
floor n lo (o ∷ l) r p (Memᴰ.tail m) = let h = floor n (suc (option_row o)) l r.2 p m in (omega (arith, r.0, h.0), h.1)

pub differ : (n lo : ℕ) (l : List Offer) → RisingO n lo l → Distinct l
differ n lo [] r = tt
differ n lo (o ∷ l) r = (λ p m e. (let h = floor n (suc (option_row o)) l r.2 p m in omega (arith, h.0)), differ n (suc (option_row o)) l r.2)

pub limited : (n lo : ℕ) (l : List Offer) → RisingO n lo l → (p : Offer) → Memᴰ p l → option_row p < n
limited n lo l r p m = (floor n lo l r p m).1
