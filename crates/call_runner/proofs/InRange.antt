-- Every number of a state has 32 signed bits, if the table's numbers and the readings have: results of operators fit or wrap. It holds of every order.
use mathlib.Core.Logic.{⊎_elim}
use mathlib.Core.Path.{◌≡◌, refl, subst}
use mathlib.Core.Logic.{inl, inr}
use mathlib.Core.Bool.{Bool, true, false, not, ◌&&◌, ◌||◌}
use mathlib.Core.Option.{Option, none, some}
use mathlib.Core.List.{List, [], ◌∷◌, ◌++◌}
use Prim.Native.Nat.{ℕ, ◌+◌, ◌*◌, ◌<◌}
use native.Mathlib.Omega.{arith}
use lib.IntN.{ℤ, pos, negsuc, neg_ℤ, ◌+ℤ◌, ◌-ℤ◌, ◌*ℤ◌}
use lib.ListN.{get_or, set, get_elem?}
use lib.Signed.{lt_z, le_z, rem_z, quot_z, mag}
use lib.Dec.{eqb}
use Rattle.meaning.specs.declared.Value.{Value}
use Rattle.meaning.specs.declared.Value.TheVariants.{Number, Missing}
use Rattle.meaning.specs.declared.Index.{Index}
use Rattle.meaning.specs.declared.Index.TheVariants.{At, Fails}
use Rattle.meaning.specs.declared.Node.{Node}
use Rattle.meaning.specs.declared.Node.TheVariants.{Literal, Element, Monadic, Dyadic, Stop, Skip, Assignment, Input, Output, Seq, Par, If, While, Alt, Block, Member, Choice, OptionRow, Guard, Other}
use Rattle.meaning.specs.Basics.{if_else, eq_z, is_some}
use Rattle.meaning.specs.Rows.{kind_at}
use Rattle.meaning.specs.Declarations.{total_cells, host_channels}
use Rattle.meaning.specs.Nodes.{node_at}
use Rattle.meaning.specs.Tree.{Expr, literal, element, monadic, given, dyadic, no_expr, Action, stop, skip, sequence, parallel, assign, input, output, conditional, loop, alternation, block, Process, Content, content_of, content_at, or_stop, action_of}
use Rattle.meaning.specs.Values.{Message, fitted, signed32, wrapped, is_true, truth, quotient, remainder, operators, operate, monadic_of, decides, when_number, dyadic_of, in_array, cell_value, read_cell, given_value, value}
use Rattle.meaning.specs.State.{Store, State, program, write_all, Effect, whole}
use Rattle.meaning.specs.Labels.{Label}
use Rattle.meaning.specs.Readings.{Sheet}
use Rattle.meaning.specs.Step.{Live, live, host-input, Passes, passes-value, passes-absence, inner-output, Allows, Step, assignment, while-false, while-true, if-true, communication, host-read, host-write, alt-skip, alt-read, alt-communication, stopping}
use Rattle.meaning.specs.Order.{Begins, Order, halt, next-step, OrderOf}
use Rattle.meaning.specs.PrintedForms.{Each, each_none, each_more, In32, IsReading}
use Rattle.meaning.specs.SettlingRules.{Settling}
use Rattle.agreement.proofs.SettlingData.{settling-cells, settling-outputs}
use Rattle.agreement.proofs.KnownStates.{set_keeps}
use Rattle.meaning.specs.ContentClaims.{higher_content}
use Rattle.meaning.proofs.LentLaws.{defaults-at}
use Rattle.agreement.proofs.TableTree.{process-is, Known, every-row}
use Rattle.base_numbers.proofs.Ranges.{in-range}
use Rattle.base_numbers.proofs.Turning.{turned-up-fits, turned-down-fits, remainder-small}
use Rattle.call_runner.proofs.Lists.{each_at, each_both}

-- Values ------------------------------------------------------------------------------------------------------------------------

-- the number that a value has is one of 32 bits
abbrev ValueIn : Value → Type 0
ValueIn (Number z) = In32 z
ValueIn (Missing k) = Unit {0}

pick : (t : Bool) (v w : Value) → ValueIn v → ValueIn w → ValueIn (if_else t v w)
pick true v w h k = h
pick false v w h k = k

fitted-in : (z : ℤ) → ValueIn (fitted z)
unfolding fitted
fitted-in z = go (lt_z z (negsuc 2147483647)) refl (lt_z (pos 2147483647) z) refl
  where
    go : (s : Bool) → lt_z z (negsuc 2147483647) ≡ s → (t : Bool) → lt_z (pos 2147483647) z ≡ t → ValueIn (if_else s (Missing 3) (if_else t (Missing 3) (Number z)))
    go true i t j = tt
    go false i true j = tt
    go false i false j = (in-range z i j).sfits

wrapped-in : (z : ℤ) → In32 (wrapped z)
unfolding wrapped
wrapped-in z = go (rem_z z (pos 4294967296)) (remainder-small z)
  where
    by : (r : ℤ) → mag r < 4294967296 → (s : Bool) → lt_z r (negsuc 2147483647) ≡ s → (t : Bool) → lt_z (pos 2147483647) r ≡ t → In32 (if_else s (r +ℤ pos 4294967296) (if_else t (r -ℤ pos 4294967296) r))
    by r m true i t j = (turned-up-fits r m i).sfits
    by r m false i true j = (turned-down-fits r m j).sfits
    by r m false i false j = (in-range r i j).sfits

    go : (r : ℤ) → mag r < 4294967296 → In32 (signed32 r)
    go r m = by r m (lt_z r (negsuc 2147483647)) refl (lt_z (pos 2147483647) r) refl

truth-in : (t : Bool) → ValueIn (truth t)
truth-in true = omega arith
truth-in false = omega arith

quotient-in : (x y : ℤ) → ValueIn (quotient x y)
unfolding quotient
quotient-in x y = pick (eq_z y (pos 0)) (Missing 4) (fitted (quot_z x y)) tt (fitted-in (quot_z x y))

remainder-in : (x y : ℤ) → ValueIn (remainder x y)
unfolding remainder
remainder-in x y = pick (eq_z y (pos 0)) (Missing 4) (fitted (rem_z x y)) tt (fitted-in (rem_z x y))

abbrev Gives : (ℤ → ℤ → Value) → Type 0
Gives f = (x y : ℤ) → ValueIn (f x y)

operators-in : Each Gives operators
unfolding operators
operators-in =
    each_more (λ x y. fitted-in (x +ℤ y))
    (each_more (λ x y. fitted-in (x -ℤ y))
    (each_more (λ x y. fitted-in (x *ℤ y))
    (each_more quotient-in
    (each_more remainder-in
    (each_more (λ x y. wrapped-in (x +ℤ y))
    (each_more (λ x y. wrapped-in (x -ℤ y))
    (each_more (λ x y. wrapped-in (x *ℤ y))
    (each_more (λ x y. truth-in (eq_z x y))
    (each_more (λ x y. truth-in (not (eq_z x y)))
    (each_more (λ x y. truth-in (lt_z x y))
    (each_more (λ x y. truth-in (le_z x y))
    (each_more (λ x y. truth-in (lt_z y x))
    (each_more (λ x y. truth-in (le_z y x))
    (each_more (λ x y. truth-in (is_true x && is_true y))
    (each_more (λ x y. truth-in (is_true x || is_true y))
    each_none)))))))))))))))

operate-in : (op : ℕ) → Gives (operate op)
unfolding operate
operate-in op = each_at {P = Gives} (λ x y. Missing 0) (λ x y. tt) operators-in op

monadic-in : (op : ℕ) (x : ℤ) → ValueIn (monadic_of op x)
unfolding monadic_of
monadic-in op x = pick (eqb op 0) _ _ (fitted-in (neg_ℤ x)) (pick (eqb op 1) _ _ (truth-in (not (is_true x))) tt)

when-in : (v : Value) (f : ℤ → Value) → ((x : ℤ) → ValueIn (f x)) → ValueIn (when_number v f)
when-in (Number x) f h = h x
when-in (Missing k) f h = tt

dyadic-in : (op : ℕ) (v w : Value) → ValueIn (dyadic_of op v w)
unfolding dyadic_of
dyadic-in op (Number x) w = pick (decides op x) _ _ (truth-in (is_true x)) (when-in w (operate op x) (operate-in op x))
dyadic-in op (Missing k) w = tt

-- the cells hold such numbers
abbrev CellsIn : List Message → Type 0
CellsIn cells = (i : ℕ) → IsReading (get_or cells i none)

cell_in : (m : Message) → IsReading m → ValueIn (cell_value m)
cell_in none h = tt
cell_in (some z) h = h

read-in : (cells : List Message) → CellsIn cells → (i : Index) → ValueIn (read_cell cells i)
read-in cells h (At i) = cell_in (get_or cells i none) (h i)
read-in cells h (Fails k) = tt

given-in : (cells : List Message) (i : Index) → ValueIn (given_value cells i)
given-in cells (At i) = truth-in (is_some (get_or cells i none))
given-in cells (Fails k) = tt

-- an expression that is a literal
abbrev ExprIn : Expr → Type 0
ExprIn (literal x) = In32 x
ExprIn (element v e) = Unit {0}
ExprIn (monadic op e) = Unit {0}
ExprIn (given v e) = Unit {0}
ExprIn (dyadic op e f) = Unit {0}
ExprIn no_expr = Unit {0}

value_in : (cells : List Message) → CellsIn cells → (e : Expr) → ExprIn e → ValueIn (value cells e)
unfolding value
value_in cells h (literal x) k = k
value_in cells h (element v e) k = read-in cells h (in_array v.first v.size (value cells e))
value_in cells h (monadic op e) k = when-in (value cells e) (monadic_of op) (monadic-in op)
value_in cells h (given v e) k = given-in cells (in_array v.first v.size (value cells e))
value_in cells h (dyadic op e f) k = dyadic-in op (value cells e) (value cells f)
value_in cells h no_expr k = tt

-- The table's numbers -------------------------------------------------------------------------------------------------------------

-- the literal of a row
abbrev NodeIn : Node → Type 0
NodeIn (Literal x) = In32 x
NodeIn (Element a b) = Unit {0}
NodeIn (Monadic a b) = Unit {0}
NodeIn (Dyadic a b c) = Unit {0}
NodeIn Stop = Unit {0}
NodeIn Skip = Unit {0}
NodeIn (Assignment a b c) = Unit {0}
NodeIn (Input a b c) = Unit {0}
NodeIn (Output a b c) = Unit {0}
NodeIn (Seq a) = Unit {0}
NodeIn (Par a) = Unit {0}
NodeIn (If a) = Unit {0}
NodeIn (While a b) = Unit {0}
NodeIn (Alt a) = Unit {0}
NodeIn (Block a b) = Unit {0}
NodeIn (Member a b) = Unit {0}
NodeIn (Choice a b c) = Unit {0}
NodeIn (OptionRow a b c) = Unit {0}
NodeIn (Guard a b) = Unit {0}
NodeIn Other = Unit {0}

by_kind : (t : Bool) (a b : Node) → NodeIn a → NodeIn b → NodeIn (if_else t a b)
by_kind true a b h k = h
by_kind false a b h k = k

-- the expressions whose values are stored or sent
abbrev ActionIn : Action → Type 0
ActionIn stop = Unit {0}
ActionIn skip = Unit {0}
ActionIn sequence = Unit {0}
ActionIn parallel = Unit {0}
ActionIn (assign v e f) = ExprIn f
ActionIn (input i) = Unit {0}
ActionIn (output c e f) = ExprIn f
ActionIn (conditional ts) = Unit {0}
ActionIn (loop e b) = Unit {0}
ActionIn (alternation bs) = Unit {0}
ActionIn (block v) = Unit {0}

abbrev ProcessIn : Option Process → Type 0
ProcessIn none = Unit {0}
ProcessIn (some p) = ActionIn (action_of p)

abbrev PartIn : ℕ → Content → Type 0
PartIn r p = ExprIn p.expr × ProcessIn p.process

module _ (rows : List ℤ) (numbers : Each In32 rows) where
  node_in : (r : ℕ) → NodeIn (node_at rows r)
  unfolding node_at
  node_in r =
      by_kind (eqb k 10) _ _ (each_at (pos 0) (omega arith) numbers (4 * r + 1))
      (by_kind (eqb k 11) _ _ tt (by_kind (eqb k 12) _ _ tt (by_kind (eqb k 13) _ _ tt (by_kind (eqb k 20) _ _ tt (by_kind (eqb k 21) _ _ tt (by_kind (eqb k 22) _ _ tt
      (by_kind (eqb k 23) _ _ tt (by_kind (eqb k 24) _ _ tt (by_kind (eqb k 30) _ _ tt (by_kind (eqb k 31) _ _ tt (by_kind (eqb k 32) _ _ tt (by_kind (eqb k 33) _ _ tt
      (by_kind (eqb k 34) _ _ tt (by_kind (eqb k 35) _ _ tt (by_kind (eqb k 40) _ _ tt (by_kind (eqb k 41) _ _ tt (by_kind (eqb k 42) _ _ tt (by_kind (eqb k 43) _ _ tt tt))))))))))))))))))
    where
      k : ℕ
      k = kind_at rows r

  part_in : (r : ℕ) (at : ℕ → Content) → ((b : ℕ) → PartIn b (at b)) → (k : Node) → NodeIn k → PartIn r (content_of rows r at k)
  part_in r at h (Literal x) n = (n, tt)
  part_in r at h (Element a b) n = (tt, tt)
  part_in r at h (Monadic a b) n = (operation-in (eqb a 2), tt)
    where
      operation-in : (t : Bool) → ExprIn (if_else t (given (at b).target.name (at b).target.subscript) (monadic a (at b).expr))
      operation-in true = tt
      operation-in false = tt
  part_in r at h (Dyadic a b c) n = (tt, tt)
  part_in r at h Stop n = (tt, tt)
  part_in r at h Skip n = (tt, tt)
  part_in r at h (Assignment a b c) n = (tt, (h c).0)
  part_in r at h (Input a b c) n = (tt, tt)
  part_in r at h (Output a b c) n = (tt, (h c).0)
  part_in r at h (Seq a) n = (tt, tt)
  part_in r at h (Par a) n = (tt, tt)
  part_in r at h (If a) n = (tt, tt)
  part_in r at h (While a b) n = (tt, tt)
  part_in r at h (Alt a) n = (tt, tt)
  part_in r at h (Block a b) n = (tt, tt)
  part_in r at h (Member a b) n = (tt, tt)
  part_in r at h (Choice a b c) n = (tt, tt)
  part_in r at h (OptionRow a b c) n = (tt, tt)
  part_in r at h (Guard a b) n = (tt, tt)
  part_in r at h Other n = (tt, tt)

  of-known : (r b : ℕ) (p : Content) → Known rows PartIn r b p → PartIn b p
  of-known r b p (inl e) = rw e (tt, tt)
  of-known r b p (inr h) = h.3

  every-part : (r : ℕ) → PartIn r (content_at rows r)
  every-part = every-row rows PartIn (λ r. (tt, tt)) (λ r l e h. part_in r (higher_content rows r) (λ b. of-known r b (higher_content rows r b) (h b)) (node_at rows r) (node_in r))

  or-stop : (o : Option Process) → ProcessIn o → ActionIn (action_of (or_stop o))
  or-stop none h = tt
  or-stop (some p) h = h

  action-in : (s : State) (r : ℕ) (a : Action) → Live (program rows) s r a → ActionIn a
  action-in s r a (live p z i) = subst (λ (q : Process). ActionIn (action_of q)) p (rw (process-is rows r) (or-stop (content_at rows r).process (every-part r).1))

  -- States --------------------------------------------------------------------------------------------------------------------------

  -- the value of an expression that is stored or sent
  number_in : (s : State) → CellsIn s.store.cells → (e : Expr) → ExprIn e → (z : ℤ) → value s.store.cells e ≡ Number z → In32 z
  number_in s h e k z q = subst ValueIn q (value_in s.store.cells h e k)

  -- what an output passes
  passes-in : (s : State) → CellsIn s.store.cells → (e : Expr) → ExprIn e → (m : Message) → Passes s.store.cells e m → IsReading m
  passes-in s h e k (some z) (passes-value q) = number_in s h e k z q
  passes-in s h no_expr k none x7 = elim x7 [ ]
  passes-in s h (dyadic _ _ _) k none x9 = elim x9 [ ]
  passes-in s h (given _ _) k none x7 = elim x7 [ ]
  passes-in s h (monadic _ _) k none x6 = elim x6 [ ]
  passes-in s h (literal _) k none x4 = elim x4 [ ]
  passes-in s h (element v e) k none (passes-absence p q) = tt

  -- every cell, and every message of an output list
  pub record StoreIn (x : Store) : Type 0 where
    pub cells : CellsIn x.cells
    pub outputs : (p : ℕ) → Each IsReading (get_or x.outputs p [])

  -- settling only unsets cells
  settled-in : {s t : State} → Settling (whole (program rows)) s t → StoreIn s.store → StoreIn t.store
  settled-in p h =
      record {
        cells = λ i. ⊎_elim (λ e. rw e (h.cells i)) (λ e. rw e.1 tt) (settling-cells (program rows) p i);
        outputs = λ c. rw (settling-outputs (program rows) p) (h.outputs c);
      }

  begins-in : (s : State) → Begins (program rows) s → StoreIn s.store
  unfolding program
  begins-in s b =
      settled-in b.by-rules
      (record {
        cells = λ i. rw (defaults-at {A = Message} none (total_cells rows) i) tt;
        outputs = λ p. rw (defaults-at {A = List Message} [] (host_channels 2 rows) p) each_none;
      })

  -- a cell is written
  cell-written : (x y : Store) → StoreIn x → (a : ℕ) (m : Message) → IsReading m → y.cells ≡ set x.cells a m → y.outputs ≡ x.outputs → StoreIn y
  cell-written x y h a m k e f =
      record {
        cells = λ i. rw e (set_keeps IsReading none x.cells a m i (h.cells i) (λ q. k));
        outputs = λ p. rw f (h.outputs p);
      }

  module _ (sheet : Sheet) (readings : (p n : ℕ) (m : Message) → get_elem? (get_or sheet p []) n ≡ some m → IsReading m) where
    effect-in : (s : State) (x : Label) (d : Effect) → Allows (program rows) sheet s x d → StoreIn s.store → StoreIn (write_all d.writes s.store)
    effect-in s x t (assignment {r} {a} {v} {e} {f} {z} g p q) h = cell-written s.store (write_all t.writes s.store) h a (some z) (number_in s h.cells f (action-in s r (assign v e f) g) z q) refl refl
    effect-in s x t (while-false g k) h = h
    effect-in s x t (while-true g k) h = h
    effect-in s x t (if-true g k) h = h
    effect-in s x t (communication {o} {a} {c} {e} {f} g k i (inner-output b d q)) h = cell-written s.store (write_all t.writes s.store) h a _ (passes-in s h.cells f (action-in s o (output c e f) k) _ q) refl refl
    effect-in s x t (host-read {a} {n} {i} {v} g (host-input b c d e f)) h = cell-written s.store (write_all t.writes s.store) h a v (readings i.channel.number n v f) refl refl
    effect-in s x t (host-write {r} {c} {e} {f} {m} {l} g k p q o n) h =
        record {
          cells = h.cells;
          outputs = λ y. set_keeps (Each IsReading) [] s.store.outputs c.number (l ++ (m ∷ [])) y (h.outputs y) (λ i. each_both (subst (Each IsReading) o (h.outputs c.number)) (each_more (passes-in s h.cells f (action-in s r (output c e f) g) m q) each_none));
        }
    effect-in s x t (alt-skip g c m k q) h = h
    effect-in s x t (alt-read {a} {n} {i} {v} g c m k q (host-input b d e f j)) h = cell-written s.store (write_all t.writes s.store) h a v (readings i.channel.number n v j) refl refl
    effect-in s x t (alt-communication {o} {a} {c} {e} {f} g y m k i q w (inner-output b d j)) h = cell-written s.store (write_all t.writes s.store) h a _ (passes-in s h.cells f (action-in s o (output c e f) k) _ j) refl refl
    effect-in s x t (stopping g k) h = h

    step_in : (s : State) (x : Label) (t : State) → Step (program rows) sheet s x t → StoreIn s.store → StoreIn t.store
    step_in s x t k h = settled-in k.leaves.by-rules (effect-in s x k.does k.allowed h)

    order-in : {s t : State} {l : List Label} → Order (program rows) sheet s l t → StoreIn s.store → StoreIn t.store
    order-in halt h = h
    order-in (next-step {s} {t} {x} k o) h = order-in o (step_in s x t k h)

    pub numbers-in : (l : List Label) (s : State) → OrderOf rows sheet l s → StoreIn s.store
    numbers-in l s o = order-in o.order (begins-in o.beginning o.begins)
