-- What a row would do, by whether it is live; in a state of an order the process of a running row stands in the whole process.
use mathlib.Core.Path.{◌≡◌, refl}
use mathlib.Core.Logic.{◌⊎◌, inl, inr}
use mathlib.Core.Bool.{Bool, true, false, ◌&&◌, false≢true}
use mathlib.Core.Option.{none}
use mathlib.Core.List.{List, Memᴰ}
use Prim.Native.Nat.{ℕ}
use native.Mathlib.Omega.{arith}
use lib.IntN.{ℤ}
use lib.ListN.{get_or}
use Rattle.meaning.specs.Basics.{if_else}
use Rattle.meaning.specs.Tree.{Action, Process, node, Processes, also, action_of, rows_in, empty}
use Rattle.meaning.specs.SettlingRules.{Among, Inside}
use Rattle.meaning.specs.State.{State, program, process_at, whole}
use Rattle.meaning.specs.Labels.{Label}
use Rattle.meaning.specs.Readings.{Sheet}
use Rattle.meaning.specs.Intent.{waits, intent}
use Rattle.meaning.specs.Ready.{is_live, intent_at}
use Rattle.meaning.specs.Order.{OrderOf}
use Rattle.meaning.specs.Answers.{check}
use Rattle.agreement.proofs.Again.{Out}
use Rattle.agreement.proofs.Reach.{Sub, SubM, self, inside, front, back}
use Rattle.agreement.proofs.Working.{in-or-out, sub_at}
use Rattle.agreement.proofs.Separate.{table-inv}
use Rattle.agreement.proofs.TableFit.{fit}

-- ---- a process that stands in another, by the way down

mutual
  sub-inside : {k : Action} {r : ℕ} {ms : Processes} (top p : Process) → Inside top p → Sub k r ms p → Inside top (node k r ms)
  sub-inside top (node k r ms) i self = i
  sub-inside top (node j q ps) i (inside h) = sub_m-inside top ps (λ p a. Inside.beneath i a) h

  sub_m-inside : {k : Action} {r : ℕ} {ms : Processes} (top : Process) (ps : Processes) → ((p : Process) → Among p ps → Inside top p) → SubM k r ms ps → Inside top (node k r ms)
  sub_m-inside {k = k} {r = r} {ms = ms} top empty i x4 = elim x4 [ ]
  sub_m-inside top (also p ps) i (front h) = sub-inside top p (i p Among.among_first) h
  sub_m-inside top (also p ps) i (back h) = sub_m-inside top ps (λ q a. i q (Among.among_later a)) h

-- ---- tests

pub both : (a b : Bool) → (a && b) ≡ true → (a ≡ true) × (b ≡ true)
both true b e = (refl, e)
both false b e = absurd (false≢true e)

-- ---- what a row would do

-- what a row would do, by whether it is live
pub intent-is : (rows : List ℤ) (sheet : Sheet) (s : State) (r : ℕ) (t : Bool) → is_live (program rows) sheet r s ≡ t → intent_at (program rows) sheet s r ≡ if_else t (intent sheet (action_of (process_at (program rows) r)) r s.store) waits
unfolding intent_at
intent-is rows sheet s r t e = rw e

-- a row whose action would do nothing waits, live or not: STOP, SKIP, SEQ and PAR
pub intent-waits : (rows : List ℤ) (sheet : Sheet) (s : State) (r : ℕ) → intent sheet (action_of (process_at (program rows) r)) r s.store ≡ waits → intent_at (program rows) sheet s r ≡ waits
unfolding intent_at
intent-waits rows sheet s r e = rw e (go (is_live (program rows) sheet r s))
  where
    go : (t : Bool) → if_else t waits waits ≡ waits
    go true = refl
    go false = refl

-- ---- accepted tables

module _ (rows : List ℤ) (ok : check rows ≡ none) (sheet : Sheet) (l : List Label) (s : State) (o : OrderOf rows sheet l s) where
  -- the process of a running row stands in the whole process
  pub running-inside : (r : ℕ) → get_or s.states r 0 ≡ 1 → Inside (whole (program rows)) (process_at (program rows) r)
  running-inside r u = go (in-or-out r (rows_in (whole (program rows))))
    where
      go : Memᴰ r (rows_in (whole (program rows))) ⊎ Out r (rows_in (whole (program rows))) → Inside (whole (program rows)) (process_at (program rows) r)
      go (inl m) =
          let (k, (ms, h)) = sub_at (whole (program rows)) r m in
          rw ((fit rows ok).placed k r ms h) (sub-inside (whole (program rows)) (whole (program rows)) Inside.itself h)
      go (inr n) = absurd (omega (arith, u, (table-inv rows sheet (fit rows ok) l s o).outside r n))
