-- Reading an unset cell where a value is needed makes the step a stop with reason 1, and nothing else does. It holds of every table.
use mathlib.Core.Path.{◌≡◌, refl, ap, ◌∙◌}
use mathlib.Core.List.{List}
use Prim.Native.Nat.{ℕ}
use native.Mathlib.Omega.{arith}
use Rattle.meaning.specs.declared.Value.{Value}
use Rattle.meaning.specs.declared.Value.TheVariants.{Number, Missing}
use Rattle.meaning.specs.declared.Index.{Index}
use Rattle.meaning.specs.declared.Index.TheVariants.{At, Fails}
use Rattle.meaning.specs.Tree.{Expr, literal, element, monadic, given, dyadic, no_expr, ChannelInput, IfChoice, AltOption, Action}
use Rattle.meaning.specs.Values.{Message, value, index, Sent, gives, lacking, cell_sent, value_sent, passed}
use Rattle.meaning.specs.Step.{LacksIn, channel-lacks, target_lacks, LacksTest, boolean-lacks, input-lacks, LacksOption, Lacks, assign-subscript, assign-value, input-subscript, output-subscript, output-value, while-test, if-test, alt-guard}
use Rattle.agreement.specs.MissingClaims.{InputNeedsUnset, in-channel, in-target, TestNeedsUnset, in-test, in-later-test, OptionNeedsUnset, in-boolean, in-guard-input, in-later-option, IsElement, PassNeedsUnset, in-passed-subscript, in-passed-value, ActionNeedsUnset, assign-to, assign-from, in-input, output-to, output-from, in-while, in-if, in-alt, UnsetLacks, UnsetStops}
use Rattle.meaning.proofs.PassedLaws.{passed-lacks, lacks-passed}
use Rattle.agreement.proofs.MissingValues.{unset-read, unset-subscript}
use Rattle.agreement.proofs.MissingStops.{lacking-only-stops}

-- told apart by a number: whether an expression is one element, and what is sent a message
abbrev elements : Expr → ℕ
elements (literal x) = 0
elements (element v e) = 1
elements (monadic op e) = 0
elements (given v e) = 0
elements (dyadic op e f) = 0
elements no_expr = 0

not-element : (f : Expr) → elements f ≡ 0 → ¬ IsElement f
not-element f h (v, (e, q)) = let z = ap elements q in omega arith

abbrev reason_in : Sent → ℕ
reason_in (gives m) = 0
reason_in (lacking k) = k

module _ (cells : List Message) where
  -- what an output of an expression that is no element passes is its value
  passed-value : (f : Expr) → ¬ IsElement f → passed cells f ≡ value_sent (value cells f)
  unfolding passed
  passed-value (literal x) h = refl
  passed-value (element v e) h = absurd (h (v, (e, refl)))
  passed-value (monadic op e) h = refl
  passed-value (given v e) h = refl
  passed-value (dyadic op e f) h = refl
  passed-value no_expr h = refl

  -- what it passes lacks a value for reason 1 exactly if it needs an unset cell
  pass-lacks-it : (f : Expr) → PassNeedsUnset cells f → passed cells f ≡ lacking 1
  unfolding passed
  pass-lacks-it f (in-passed-subscript {v} {e} h) = rw ((unset-subscript cells v.first v.size e).1 h)
  pass-lacks-it f (in-passed-value never h) = passed-value f never ∙ ap value_sent ((unset-read cells f).1 h)

  no_value : (f : Expr) → elements f ≡ 0 → value_sent (value cells f) ≡ lacking 1 → PassNeedsUnset cells f
  no_value f n h = in-passed-value (not-element f n) ((unset-read cells f).0 (go (value cells f) h))
    where
      go : (v : Value) → value_sent v ≡ lacking 1 → v ≡ Missing 1
      go (Number x) q = let z = ap reason_in q in absurd (omega arith)
      go (Missing k) q = ap Missing (ap reason_in q)

  pass-needs : (f : Expr) → passed cells f ≡ lacking 1 → PassNeedsUnset cells f
  unfolding passed
  pass-needs (literal x) h = no_value (literal x) refl h
  pass-needs (element v e) h = go (index cells v.first v.size e) refl h
    where
      go : (i : Index) → index cells v.first v.size e ≡ i → cell_sent cells i ≡ lacking 1 → PassNeedsUnset cells (element v e)
      go (At a) p q = let z = ap reason_in q in absurd (omega arith)
      go (Fails k) p q = in-passed-subscript ((unset-subscript cells v.first v.size e).0 (p ∙ ap Fails (ap reason_in q)))
  pass-needs (monadic op e) h = no_value (monadic op e) refl h
  pass-needs (given v e) h = no_value (given v e) refl h
  pass-needs (dyadic op e f) h = no_value (dyadic op e f) refl h
  pass-needs no_expr h = no_value no_expr refl h

  -- what needs an unset cell lacks a value for reason 1
  input-lacks-it : (i : ChannelInput) → InputNeedsUnset cells i → LacksIn cells i 1
  input-lacks-it i (in-channel h) = channel-lacks ((unset-subscript cells _ _ _).1 h)
  input-lacks-it i (in-target e h) = target_lacks e ((unset-subscript cells _ _ _).1 h)

  test-lacks-it : (l : List IfChoice) → TestNeedsUnset cells l → LacksTest cells l 1
  test-lacks-it l (in-test {t} h) = LacksTest.test-lacks ((unset-read cells t.boolean).1 h)
  test-lacks-it l (in-later-test {l = m} e h) = LacksTest.false-before-lack e (test-lacks-it m h)

  option-lacks-it : (l : List AltOption) → OptionNeedsUnset cells l → LacksOption cells l 1
  option-lacks-it l (in-boolean {b} h) = LacksOption.option-lacks (boolean-lacks ((unset-read cells b.guard.boolean).1 h))
  option-lacks-it l (in-guard-input {i} t e h) = LacksOption.option-lacks (input-lacks t e (input-lacks-it i h))
  option-lacks-it l (in-later-option {l = m} e h) = LacksOption.pass-over e (option-lacks-it m h)

  lacks-it : (a : Action) → ActionNeedsUnset cells a → Lacks cells a 1
  lacks-it a (assign-to h) = assign-subscript ((unset-subscript cells _ _ _).1 h)
  lacks-it a (assign-from {f} e h) = assign-value e ((unset-read cells f).1 h)
  lacks-it a (in-input {i} h) = input-subscript (input-lacks-it i h)
  lacks-it a (output-to h) = output-subscript ((unset-subscript cells _ _ _).1 h)
  lacks-it a (output-from {f} e h) = let (v, never) = passed-lacks cells f 1 (pass-lacks-it f h) in output-value e v never
  lacks-it a (in-while {e} h) = while-test ((unset-read cells e).1 h)
  lacks-it a (in-if {ts} h) = if-test (test-lacks-it ts h)
  lacks-it a (in-alt {bs} h) = alt-guard (option-lacks-it bs h)

  -- and what lacks a value for reason 1 needs an unset cell
  input-needs : (i : ChannelInput) → LacksIn cells i 1 → InputNeedsUnset cells i
  input-needs i (channel-lacks h) = in-channel ((unset-subscript cells _ _ _).0 h)
  input-needs i (target_lacks e h) = in-target e ((unset-subscript cells _ _ _).0 h)

  test-needs : (l : List IfChoice) → LacksTest cells l 1 → TestNeedsUnset cells l
  test-needs l (LacksTest.test-lacks {t} h) = in-test ((unset-read cells t.boolean).0 h)
  test-needs l (LacksTest.false-before-lack {l = m} e h) = in-later-test e (test-needs m h)

  option-needs : (l : List AltOption) → LacksOption cells l 1 → OptionNeedsUnset cells l
  option-needs l (LacksOption.option-lacks {b} (boolean-lacks h)) = in-boolean ((unset-read cells b.guard.boolean).0 h)
  option-needs l (LacksOption.option-lacks (input-lacks {i} t e h)) = in-guard-input t e (input-needs i h)
  option-needs l (LacksOption.pass-over {l = m} e h) = in-later-option e (option-needs m h)

  needs : (a : Action) → Lacks cells a 1 → ActionNeedsUnset cells a
  needs a (assign-subscript h) = assign-to ((unset-subscript cells _ _ _).0 h)
  needs a (assign-value {f} e h) = assign-from e ((unset-read cells f).0 h)
  needs a (input-subscript {i} h) = in-input (input-needs i h)
  needs a (output-subscript h) = output-to ((unset-subscript cells _ _ _).0 h)
  needs a (output-value {f} e h never) = output-from e (pass-needs f (lacks-passed cells f 1 h never))
  needs a (while-test {e} h) = in-while ((unset-read cells e).0 h)
  needs a (if-test {ts} h) = in-if (test-needs ts h)
  needs a (alt-guard {bs} h) = in-alt (option-needs bs h)

-- an action lacks a value for reason 1 exactly if it needs an unset cell
pub unset-lacks : UnsetLacks
unset-lacks cells a = (needs cells a, lacks-it cells a)

-- reading an unset cell where a value is needed makes the step a stop with reason 1
pub unset-stops : UnsetStops
unset-stops rows sheet s r a g h = lacking-only-stops rows sheet s r 1 a g (lacks-it s.store.cells a h)
