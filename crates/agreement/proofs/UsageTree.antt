-- A mark that elements, assignments, inputs and outputs may bear, and whether anything in an expression, a process or a part bears it.
use mathlib.Core.Logic.{◌⊎◌, inl, inr, ⊎_elim}
use mathlib.Core.List.{List, [], ◌∷◌}
use mathlib.Core.Option.{Option, none, some}
use Rattle.meaning.specs.Declarations.{Variable, Channel}
use Rattle.meaning.specs.Tree.{Expr, literal, element, monadic, given, dyadic, no_expr, ChannelInput, IfChoice, AltGuard, AltOption, Action, stop, skip, sequence, parallel, assign, input, output, conditional, loop, alternation, block, Process, node, Processes, empty, also, Content, no_content, and_process, of_expr, of_element, of_process, of_guarded, of_guard_row, of_link}

-- what bears the mark
pub record Mark : Type 1 where
  pub at_element : Variable → Expr → Type 0
  pub at_assignment : Variable → Expr → Type 0
  pub at_input : ChannelInput → Type 0
  pub at_output : Channel → Expr → Type 0

module _ (M : Mark) where
  -- some element in an expression, and anything in an action, bears the mark
  abbrev pub InExpr : Expr → Type 0
  InExpr (literal x) = ⊥
  InExpr (element v e) = M.at_element v e ⊎ InExpr e
  InExpr (monadic op e) = InExpr e
  InExpr (given v e) = M.at_element v e ⊎ InExpr e
  InExpr (dyadic op e f) = InExpr e ⊎ InExpr f
  InExpr no_expr = ⊥

  abbrev pub InReceive : ChannelInput → Type 0
  InReceive i = M.at_input i ⊎ (InExpr i.subscript ⊎ InExpr (element i.target.name i.target.subscript))

  abbrev pub InChoices : List IfChoice → Type 0
  InChoices [] = ⊥
  InChoices (t ∷ l) = InExpr t.boolean ⊎ InChoices l

  abbrev pub InInput : Option ChannelInput → Type 0
  InInput none = ⊥
  InInput (some i) = InReceive i

  abbrev pub InGuard : AltGuard → Type 0
  InGuard g = InExpr g.boolean ⊎ InInput g.input

  abbrev pub InOptions : List AltOption → Type 0
  InOptions [] = ⊥
  InOptions (b ∷ l) = InGuard b.guard ⊎ InOptions l

  abbrev pub InAction : Action → Type 0
  InAction stop = ⊥
  InAction skip = ⊥
  InAction sequence = ⊥
  InAction parallel = ⊥
  InAction (assign v e f) = M.at_assignment v e ⊎ (InExpr e ⊎ InExpr f)
  InAction (input i) = InReceive i
  InAction (output c e f) = M.at_output c e ⊎ (InExpr e ⊎ InExpr f)
  InAction (conditional ts) = InChoices ts
  InAction (loop e b) = InExpr e
  InAction (alternation bs) = InOptions bs
  InAction (block v) = ⊥

  -- anything in a process with all beneath it
  abbrev mutual
    pub InProcess : Process → Type 0
    InProcess (node a r ms) = InAction a ⊎ InMembers ms

    pub InMembers : Processes → Type 0
    InMembers empty = ⊥
    InMembers (also p ms) = InProcess p ⊎ InMembers ms

  abbrev pub InOption : Option Process → Type 0
  InOption none = ⊥
  InOption (some p) = InProcess p

  -- anything in what stands at a row
  pub data InPart (x : Content) : Type 0 where
    in-expr : InExpr x.expr → InPart x
    in-process : InOption x.process → InPart x
    in_members : InMembers x.listed → InPart x
    in-choices : InChoices x.tests → InPart x
    in-options : InOptions x.options → InPart x
    in-guard : InGuard x.guard → InPart x

  -- by what a part is
  pub in-no-part : InPart no_content → ⊥
  in-no-part (in-expr h) = h
  in-no-part (in-process h) = h
  in-no-part (in_members h) = h
  in-no-part (in-choices h) = h
  in-no-part (in-options h) = h
  in-no-part (in-guard h) = ⊎_elim (λ z. z) (λ z. z) h

  pub in-expr-part : (e : Expr) → InPart (of_expr e) → InExpr e
  in-expr-part e (in-expr h) = h
  in-expr-part e (in-process h) = absurd h
  in-expr-part e (in_members h) = absurd h
  in-expr-part e (in-choices h) = absurd h
  in-expr-part e (in-options h) = absurd h
  in-expr-part e (in-guard h) = absurd (⊎_elim (λ z. z) (λ z. z) h)

  pub in-element-part : (v : Variable) (e : Expr) → InPart (of_element v e) → InExpr (element v e)
  in-element-part v e (in-expr h) = h
  in-element-part v e (in-process h) = absurd h
  in-element-part v e (in_members h) = absurd h
  in-element-part v e (in-choices h) = absurd h
  in-element-part v e (in-options h) = absurd h
  in-element-part v e (in-guard h) = absurd (⊎_elim (λ z. z) (λ z. z) h)

  pub in-process-part : (p : Process) → InPart (of_process p) → InProcess p
  in-process-part p (in-expr h) = absurd h
  in-process-part p (in-process h) = h
  in-process-part p (in_members h) = absurd h
  in-process-part p (in-choices h) = absurd h
  in-process-part p (in-options h) = absurd h
  in-process-part p (in-guard h) = absurd (⊎_elim (λ z. z) (λ z. z) h)

  -- an input or SKIP, whose process is that of the guard
  pub in-guarded-part : (p : Process) (i : Option ChannelInput) → InPart (of_guarded p i) → InProcess p ⊎ InInput i
  in-guarded-part p i (in-expr h) = absurd h
  in-guarded-part p i (in-process h) = inl h
  in-guarded-part p i (in_members h) = absurd h
  in-guarded-part p i (in-choices h) = absurd h
  in-guarded-part p i (in-options h) = absurd h
  in-guarded-part p i (in-guard h) = inr (⊎_elim (λ z. absurd z) (λ z. z) h)

  pub in-guard-part : (g : AltGuard) → InPart (of_guard_row g) → InGuard g
  in-guard-part g (in-expr h) = absurd h
  in-guard-part g (in-process h) = absurd h
  in-guard-part g (in_members h) = absurd h
  in-guard-part g (in-choices h) = absurd h
  in-guard-part g (in-options h) = absurd h
  in-guard-part g (in-guard h) = h

  pub in-link-part : (ms : Processes) (ts : List IfChoice) (bs : List AltOption) → InPart (of_link ms ts bs) → InMembers ms ⊎ (InChoices ts ⊎ InOptions bs)
  in-link-part ms ts bs (in-expr h) = absurd h
  in-link-part ms ts bs (in-process h) = absurd h
  in-link-part ms ts bs (in_members h) = inl h
  in-link-part ms ts bs (in-choices h) = inr (inl h)
  in-link-part ms ts bs (in-options h) = inr (inr h)
  in-link-part ms ts bs (in-guard h) = absurd (⊎_elim (λ z. z) (λ z. z) h)

  -- a process before members
  pub split-member : (o : Option Process) (ms : Processes) → InMembers (and_process o ms) → InOption o ⊎ InMembers ms
  split-member none ms h = inr h
  split-member (some p) ms h = h

  pub join-member : (o : Option Process) (ms : Processes) → InOption o ⊎ InMembers ms → InMembers (and_process o ms)
  join-member none ms h = ⊎_elim (λ z. absurd z) (λ z. z) h
  join-member (some p) ms h = h
