-- A number is gathered over a process exactly if something in the process bears the mark of the number.
use mathlib.Core.Logic.{◌⊎◌, inl, inr, ⊎_elim, ◌↔◌}
use mathlib.Core.List.Memᴰ
use mathlib.Core.List.{List, [], ◌∷◌, ◌++◌, Memᴰ}
use mathlib.Core.Option.{Option, none, some}
use Prim.Native.Nat.{ℕ}
use Rattle.meaning.specs.Declarations.{Variable}
use Rattle.meaning.specs.Tree.{Expr, literal, element, monadic, given, dyadic, no_expr, ChannelInput, IfChoice, AltOption, Action, stop, skip, sequence, parallel, assign, input, output, conditional, loop, alternation, block, Process, node, Processes, empty, also}
use Rattle.meaning.specs.Usage.{counts_for, stands_in, stands_in_choices, changes_by, uses_by, inputs_by, of_guard, of_guards, stands_in_guards, changes, uses, input_elements, output_elements, gather, gather_all}
use Rattle.agreement.proofs.UsageTree.{Mark, InExpr, InReceive, InChoices, InInput, InOptions, InAction, InProcess, InMembers}

module _ (n : ℕ) where
  -- what changes cell n, uses it; what inputs from, outputs to element n
  abbrev pub mark_changes : Mark
  mark_changes = record {
    at_element = λ v e. ⊥;
    at_assignment = λ v e. Memᴰ n (counts_for v.first v.size e);
    at_input = λ i. Memᴰ n (changes_by i);
    at_output = λ c e. ⊥;
  }

  abbrev pub mark_uses : Mark
  mark_uses = record {
    at_element = λ v e. Memᴰ n (counts_for v.first v.size e);
    at_assignment = λ v e. Memᴰ n (counts_for v.first v.size e);
    at_input = λ i. Memᴰ n (changes_by i);
    at_output = λ c e. ⊥;
  }

  abbrev pub mark_inputs : Mark
  mark_inputs = record { at_element = λ v e. ⊥; at_assignment = λ v e. ⊥; at_input = λ i. Memᴰ n (inputs_by i); at_output = λ c e. ⊥ }

  abbrev pub mark_outputs : Mark
  mark_outputs = record { at_element = λ v e. ⊥; at_assignment = λ v e. ⊥; at_input = λ i. ⊥; at_output = λ c e. Memᴰ n (counts_for c.first c.size e) }

  -- in one of two lists
  split : (l m : List ℕ) → Memᴰ n (l ++ m) → Memᴰ n l ⊎ Memᴰ n m
  split l m h = Memᴰ.append_cases l h

  left : (l m : List ℕ) → Memᴰ n l → Memᴰ n (l ++ m)
  left l m h = Memᴰ.append_left m h

  right : (l m : List ℕ) → Memᴰ n m → Memᴰ n (l ++ m)
  right l m h = Memᴰ.append_right l h

  -- over a process, where it is so of each action
  module _ (M : Mark) (f : Action → List ℕ) (each : (a : Action) → Memᴰ n (f a) ↔ InAction M a) where
    mutual
      unfolding gather

      gather-to : (p : Process) → Memᴰ n (gather p f) → InProcess M p
      gather-to (node a r ms) h = ⊎_elim (λ i. inl ((each a).0 i)) (λ i. inr (gather_all-to ms i)) (split (f a) (gather_all ms f) h)

      gather_all-to : (ms : Processes) → Memᴰ n (gather_all ms f) → InMembers M ms
      gather_all-to empty h = absurd (Memᴰ.not-nil h)
      gather_all-to (also p ms) h = ⊎_elim (λ i. inl (gather-to p i)) (λ i. inr (gather_all-to ms i)) (split (gather p f) (gather_all ms f) h)

    mutual
      unfolding gather

      gather-from : (p : Process) → InProcess M p → Memᴰ n (gather p f)
      gather-from (node a r ms) h = ⊎_elim (λ i. left (f a) (gather_all ms f) ((each a).1 i)) (λ i. right (f a) (gather_all ms f) (gather_all-from ms i)) h

      gather_all-from : (ms : Processes) → InMembers M ms → Memᴰ n (gather_all ms f)
      gather_all-from empty h = absurd h
      gather_all-from (also p ms) h =
          ⊎_elim (λ i. left (gather p f) (gather_all ms f) (gather-from p i)) (λ i. right (gather p f) (gather_all ms f) (gather_all-from ms i)) h

    gather-is : (p : Process) → Memᴰ n (gather p f) ↔ InProcess M p
    gather-is p = (gather-to p, gather-from p)

  module _ (M : Mark) where
    -- a boolean of an option bears the mark
    abbrev InBooleans : List AltOption → Type 0
    InBooleans [] = ⊥
    InBooleans (b ∷ l) = InExpr M b.guard.boolean ⊎ InBooleans l

    booleans-in : (bs : List AltOption) → InBooleans bs → InOptions M bs
    booleans-in [] h = absurd h
    booleans-in (b ∷ l) h = ⊎_elim (λ i. inl (inl i)) (λ i. inr (booleans-in l i)) h

    -- the inputs of guards, where it is so of each input
    module _ (by : ChannelInput → List ℕ) (each : (i : ChannelInput) → Memᴰ n (by i) ↔ InReceive M i) where
      guard-to : (o : Option ChannelInput) → Memᴰ n (of_guard by o) → InInput M o
      guard-to none h = absurd (Memᴰ.not-nil h)
      guard-to (some i) h = (each i).0 h

      guard-from : (o : Option ChannelInput) → InInput M o → Memᴰ n (of_guard by o)
      guard-from none h = absurd h
      guard-from (some i) h = (each i).1 h

      guards-to : (bs : List AltOption) → Memᴰ n (of_guards by bs) → InOptions M bs
      guards-to [] h = absurd (Memᴰ.not-nil h)
      guards-to (b ∷ l) h = ⊎_elim (λ i. inl (inr (guard-to b.guard.input i))) (λ i. inr (guards-to l i)) (split (of_guard by b.guard.input) (of_guards by l) h)

      guards-from : (bs : List AltOption) → InOptions M bs → InBooleans bs ⊎ Memᴰ n (of_guards by bs)
      guards-from [] h = absurd h
      guards-from (b ∷ l) h = ⊎_elim here (λ i. there (guards-from l i)) h
        where
          here : InExpr M b.guard.boolean ⊎ InInput M b.guard.input → InBooleans (b ∷ l) ⊎ Memᴰ n (of_guards by (b ∷ l))
          here i = ⊎_elim (λ j. inl (inl j)) (λ j. inr (left (of_guard by b.guard.input) (of_guards by l) (guard-from b.guard.input j))) i

          there : InBooleans l ⊎ Memᴰ n (of_guards by l) → InBooleans (b ∷ l) ⊎ Memᴰ n (of_guards by (b ∷ l))
          there i = ⊎_elim (λ j. inl (inr j)) (λ j. inr (right (of_guard by b.guard.input) (of_guards by l) j)) i

    -- a mark that no element bears is in no expression
    module _ (quiet : (v : Variable) (e : Expr) → ¬ M.at_element v e) where
      quiet-expr : (e : Expr) → ¬ InExpr M e
      quiet-expr (literal x) h = h
      quiet-expr (element v e) h = ⊎_elim (quiet v e) (quiet-expr e) h
      quiet-expr (monadic op e) h = quiet-expr e h
      quiet-expr (given v e) h = ⊎_elim (quiet v e) (quiet-expr e) h
      quiet-expr (dyadic op e f) h = ⊎_elim (quiet-expr e) (quiet-expr f) h
      quiet-expr no_expr h = h

      quiet-choices : (ts : List IfChoice) → ¬ InChoices M ts
      quiet-choices [] h = h
      quiet-choices (t ∷ l) h = ⊎_elim (quiet-expr t.boolean) (quiet-choices l) h

      quiet-booleans : (bs : List AltOption) → ¬ InBooleans bs
      quiet-booleans [] h = h
      quiet-booleans (b ∷ l) h = ⊎_elim (quiet-expr b.guard.boolean) (quiet-booleans l) h

  -- nothing is in no list
  none_in : {A : Type 0} → ¬ A → Memᴰ n [] ↔ A
  none_in f = (λ h. absurd (Memᴰ.not-nil h), λ a. absurd (f a))

  -- actions of which only some part can bear a mark
  only-first : {A B : Type 0} {l : List ℕ} → Memᴰ n l ↔ A → ¬ B → Memᴰ n l ↔ (A ⊎ B)
  only-first e f = (λ h. inl (e.0 h), λ h. ⊎_elim e.1 (λ b. absurd (f b)) h)

  either-quiet : {A B : Type 0} → ¬ A → ¬ B → ¬ (A ⊎ B)
  either-quiet f g h = ⊎_elim f g h

  module _ (M : Mark) (quiet : (v : Variable) (e : Expr) → ¬ M.at_element v e) (by : ChannelInput → List ℕ) where
    receive-is : (i : ChannelInput) → Memᴰ n (by i) ↔ M.at_input i → Memᴰ n (by i) ↔ InReceive M i
    receive-is i e = only-first e (either-quiet (quiet-expr M quiet i.subscript) (quiet-expr M quiet (element i.target.name i.target.subscript)))

    guards-are : ((i : ChannelInput) → Memᴰ n (by i) ↔ M.at_input i) → (bs : List AltOption) → Memᴰ n (of_guards by bs) ↔ InOptions M bs
    guards-are e bs = (
      guards-to M by (λ i. receive-is i (e i)) bs,
      λ h. ⊎_elim (λ b. absurd (quiet-booleans M quiet bs b)) (λ m. m) (guards-from M by (λ i. receive-is i (e i)) bs h),
    )

    two-quiet : (e f : Expr) → ¬ (InExpr M e ⊎ InExpr M f)
    two-quiet e f = either-quiet (quiet-expr M quiet e) (quiet-expr M quiet f)

  -- a mark that no input bears either is in no option
  module _ (M : Mark) (quiet : (v : Variable) (e : Expr) → ¬ M.at_element v e) (silent : (i : ChannelInput) → ¬ M.at_input i) where
    quiet-input : (o : Option ChannelInput) → ¬ InInput M o
    quiet-input none h = h
    quiet-input (some i) h = ⊎_elim (silent i) (two-quiet M quiet (λ j. []) i.subscript (element i.target.name i.target.subscript)) h

    quiet-options : (bs : List AltOption) → ¬ InOptions M bs
    quiet-options [] h = h
    quiet-options (b ∷ l) h = ⊎_elim (either-quiet (quiet-expr M quiet b.guard.boolean) (quiet-input b.guard.input)) (quiet-options l) h

  -- changes
  changes-is : (a : Action) → Memᴰ n (changes a) ↔ InAction mark_changes a
  changes-is stop = none_in (λ h. h)
  changes-is skip = none_in (λ h. h)
  changes-is sequence = none_in (λ h. h)
  changes-is parallel = none_in (λ h. h)
  changes-is (assign v e f) = only-first (λ h. h, λ h. h) (two-quiet mark_changes (λ v e h. h) changes_by e f)
  changes-is (input i) = receive-is mark_changes (λ v e h. h) changes_by i (λ h. h, λ h. h)
  changes-is (output c e f) = none_in (either-quiet (λ h. h) (two-quiet mark_changes (λ v e h. h) changes_by e f))
  changes-is (conditional ts) = none_in (quiet-choices mark_changes (λ v e h. h) ts)
  changes-is (loop e b) = none_in (quiet-expr mark_changes (λ v e h. h) e)
  changes-is (alternation bs) = guards-are mark_changes (λ v e h. h) changes_by (λ i. (λ h. h, λ h. h)) bs
  changes-is (block v) = none_in (λ h. h)

  pub gathers-changes : (p : Process) → Memᴰ n (gather p changes) ↔ InProcess mark_changes p
  gathers-changes = gather-is mark_changes changes changes-is

  -- inputs
  inputs-is : (a : Action) → Memᴰ n (input_elements a) ↔ InAction mark_inputs a
  inputs-is stop = none_in (λ h. h)
  inputs-is skip = none_in (λ h. h)
  inputs-is sequence = none_in (λ h. h)
  inputs-is parallel = none_in (λ h. h)
  inputs-is (assign v e f) = none_in (either-quiet (λ h. h) (two-quiet mark_inputs (λ v e h. h) inputs_by e f))
  inputs-is (input i) = receive-is mark_inputs (λ v e h. h) inputs_by i (λ h. h, λ h. h)
  inputs-is (output c e f) = none_in (either-quiet (λ h. h) (two-quiet mark_inputs (λ v e h. h) inputs_by e f))
  inputs-is (conditional ts) = none_in (quiet-choices mark_inputs (λ v e h. h) ts)
  inputs-is (loop e b) = none_in (quiet-expr mark_inputs (λ v e h. h) e)
  inputs-is (alternation bs) = guards-are mark_inputs (λ v e h. h) inputs_by (λ i. (λ h. h, λ h. h)) bs
  inputs-is (block v) = none_in (λ h. h)

  pub gathers-inputs : (p : Process) → Memᴰ n (gather p input_elements) ↔ InProcess mark_inputs p
  gathers-inputs = gather-is mark_inputs input_elements inputs-is

  -- outputs
  outputs-is : (a : Action) → Memᴰ n (output_elements a) ↔ InAction mark_outputs a
  outputs-is stop = none_in (λ h. h)
  outputs-is skip = none_in (λ h. h)
  outputs-is sequence = none_in (λ h. h)
  outputs-is parallel = none_in (λ h. h)
  outputs-is (assign v e f) = none_in (either-quiet (λ h. h) (two-quiet mark_outputs (λ v e h. h) (λ i. []) e f))
  outputs-is (input i) = receive-is mark_outputs (λ v e h. h) (λ j. []) i (none_in (λ h. h))
  outputs-is (output c e f) = only-first (λ h. h, λ h. h) (two-quiet mark_outputs (λ v e h. h) (λ i. []) e f)
  outputs-is (conditional ts) = none_in (quiet-choices mark_outputs (λ v e h. h) ts)
  outputs-is (loop e b) = none_in (quiet-expr mark_outputs (λ v e h. h) e)
  outputs-is (alternation bs) = none_in (quiet-options mark_outputs (λ v e h. h) (λ i h. h) bs)
  outputs-is (block v) = none_in (λ h. h)

  pub gathers-outputs : (p : Process) → Memᴰ n (gather p output_elements) ↔ InProcess mark_outputs p
  gathers-outputs = gather-is mark_outputs output_elements outputs-is

  -- uses
  both : {A B : Type 0} (l m : List ℕ) → Memᴰ n l ↔ A → Memᴰ n m ↔ B → Memᴰ n (l ++ m) ↔ (A ⊎ B)
  both l m e f = (λ h. ⊎_elim (λ i. inl (e.0 i)) (λ i. inr (f.0 i)) (split l m h), λ h. ⊎_elim (λ i. left l m (e.1 i)) (λ i. right l m (f.1 i)) h)

  stands-is : (e : Expr) → Memᴰ n (stands_in e) ↔ InExpr mark_uses e
  unfolding stands_in
  stands-is (literal x) = none_in (λ h. h)
  stands-is (element v e) = both (counts_for v.first v.size e) (stands_in e) (λ h. h, λ h. h) (stands-is e)
  stands-is (monadic op e) = stands-is e
  stands-is (given v e) = both (counts_for v.first v.size e) (stands_in e) (λ h. h, λ h. h) (stands-is e)
  stands-is (dyadic op e f) = both (stands_in e) (stands_in f) (stands-is e) (stands-is f)
  stands-is no_expr = none_in (λ h. h)

  two-stand : (e f : Expr) → Memᴰ n (stands_in e ++ stands_in f) ↔ (InExpr mark_uses e ⊎ InExpr mark_uses f)
  two-stand e f = both (stands_in e) (stands_in f) (stands-is e) (stands-is f)

  stands-in-choices : (ts : List IfChoice) → Memᴰ n (stands_in_choices ts) ↔ InChoices mark_uses ts
  stands-in-choices [] = none_in (λ h. h)
  stands-in-choices (t ∷ l) = both (stands_in t.boolean) (stands_in_choices l) (stands-is t.boolean) (stands-in-choices l)

  stands-in-guards : (bs : List AltOption) → Memᴰ n (stands_in_guards bs) ↔ InBooleans mark_uses bs
  stands-in-guards [] = none_in (λ h. h)
  stands-in-guards (b ∷ l) = both (stands_in b.guard.boolean) (stands_in_guards l) (stands-is b.guard.boolean) (stands-in-guards l)

  -- the target of an input counts as changed, whether or not it is looked at as an element
  uses-by : (i : ChannelInput) → Memᴰ n (uses_by i) ↔ InReceive mark_uses i
  uses-by i = (λ h. ⊎_elim inl (λ j. inr (⊎_elim inl (λ k. inr (inr k)) j)) (e.0 h), λ h. e.1 (⊎_elim inl (λ j. ⊎_elim (λ k. inr (inl k)) (λ k. ⊎_elim inl (λ o. inr (inr o)) k) j) h))
    where
      e : Memᴰ n (uses_by i) ↔ (Memᴰ n (changes_by i) ⊎ (InExpr mark_uses i.subscript ⊎ InExpr mark_uses i.target.subscript))
      e = both (changes_by i) (stands_in i.subscript ++ stands_in i.target.subscript) (λ h. h, λ h. h) (two-stand i.subscript i.target.subscript)

  pub uses-is : (a : Action) → Memᴰ n (uses a) ↔ InAction mark_uses a
  uses-is stop = none_in (λ h. h)
  uses-is skip = none_in (λ h. h)
  uses-is sequence = none_in (λ h. h)
  uses-is parallel = none_in (λ h. h)
  uses-is (assign v e f) = both (counts_for v.first v.size e) (stands_in e ++ stands_in f) (λ h. h, λ h. h) (two-stand e f)
  uses-is (input i) = uses-by i
  uses-is (output c e f) = (λ h. inr ((two-stand e f).0 h), λ h. ⊎_elim (λ i. absurd i) (two-stand e f).1 h)
  uses-is (conditional ts) = stands-in-choices ts
  uses-is (loop e b) = stands-is e
  uses-is (alternation bs) = (
    λ h. ⊎_elim (λ i. booleans-in mark_uses bs ((stands-in-guards bs).0 i)) (guards-to mark_uses uses_by uses-by bs) (split (stands_in_guards bs) (of_guards uses_by bs) h),
    λ h. ⊎_elim (λ i. left (stands_in_guards bs) (of_guards uses_by bs) ((stands-in-guards bs).1 i)) (right (stands_in_guards bs) (of_guards uses_by bs)) (guards-from mark_uses uses_by uses-by bs h),
  )
  uses-is (block v) = none_in (λ h. h)

  pub gathers-uses : (p : Process) → Memᴰ n (gather p uses) ↔ InProcess mark_uses p
  gathers-uses = gather-is mark_uses uses uses-is
