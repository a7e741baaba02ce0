-- The numbers of what a row or an option would do are those of the intent that it stands for.
use mathlib.Core.Path.{◌≡◌, refl, sym, ap, ap₂, ◌∙◌}
use mathlib.Core.Logic.{◌≢◌}
use mathlib.Core.Bool.{Bool, true, false}
use mathlib.Core.Option.{Option, none, some}
use mathlib.Core.List.{List, [], ◌∷◌, ◌++◌, map, flatten}
use Prim.Native.Nat.{ℕ, zero, suc, ◌%◌, ◌<◌}
use native.Mathlib.Omega.{arith}
use lib.IntN.{pos}
use lib.Dec.{ltb}
use lib.ListN.{get_or}
use Rattle.meaning.specs.declared.Value.{Value}
use Rattle.meaning.specs.declared.Value.TheVariants.{Number, Missing}
use Rattle.meaning.specs.declared.Index.{Index}
use Rattle.meaning.specs.declared.Index.TheVariants.{At, Fails}
use Rattle.meaning.specs.Basics.{if_else}
use Rattle.meaning.specs.Tree.{ChannelInput, AltOption}
use Rattle.meaning.specs.Values.{Message, is_true, value, index}
use Rattle.meaning.specs.State.{Store}
use Rattle.meaning.specs.Buffers.{mark, number_in}
use Rattle.meaning.specs.Readings.{Sheet}
use Rattle.meaning.specs.Intent.{Offer, OptionsResult, fails, offers}
use Rattle.run_code.specs.Prepared.{host_note}
use Rattle.run_values.specs.Targets.{target_index}
use Rattle.run_values.specs.Sending.{message_in}
use Rattle.run_intents.specs.declared.Does.{Does}
use Rattle.run_intents.specs.declared.Does.TheVariants.{Waits, Stops, Assigns, Ends, Starts, Reads, Writes, InputsFrom, OutputsTo, Selects}
use Rattle.run_intents.specs.Does.{when_true, received, input_does, guard_does, guarded_does, option_does}
use Rattle.run_intents.specs.Stands.{OptionNote, option_notes, stop_of, first_of, first_stop, offers_for, offers_of, stands_for}
use Rattle.run_intents.proofs.Ranges.{InRange, NotesInRange}
use Rattle.run_notes.specs.Notes.{note, note_numbers}
use Rattle.run_noted.specs.Noted.{last_of, note_of_intent, Tells, tells_none, lacks-here, lacks-later, waits-here, offers-here}
use Rattle.run_noted.proofs.NotedRows.{halts-note}

pub last-is : (l : List Message) (m : Message) → last_of (l ++ (m ∷ [])) ≡ m
last-is [] m = refl
last-is (k ∷ []) m = refl
last-is (k ∷ j ∷ l) m = last-is (j ∷ l) m

-- numbers in range are not cut
kept : (a : ℕ) → a < 1024 → a % 65536 ≡ a
kept a l = omega arith

-- ---- a row

module _ (sheet : Sheet) (x : Store) (r : ℕ) (ns : List OptionNote) where
  pub does-note : (d : Does) → InRange d → (note_numbers d).what ≢ 9 → note_numbers d ≡ note_of_intent (stands_for sheet x r ns d)
  does-note Waits h z = refl
  does-note (Stops k) h z = sym (halts-note r k)
  does-note (Assigns a v) h z = ap (λ (c : ℕ). note 2 0 c v) (kept a (omega arith))
  does-note Ends h z = refl
  does-note (Starts q) h z = ap (λ (c : ℕ). note 4 c 0 (pos 0)) (kept q h)
  does-note (Reads a p) h z = ap₂ (λ (b c : ℕ). note 5 b c (pos 0)) (kept p (omega (arith, h.1))) (kept a (omega (arith, h.0)))
  does-note (Writes p m) h z =
      let w = message_in m in
      ap (λ (b : ℕ). note 6 b (mark w) (number_in w)) (kept p (omega (arith, h)))
      ∙ sym (ap (λ (c : Message). note 6 p (mark c) (number_in c)) (last-is (get_or x.outputs p []) w))
  does-note (InputsFrom e a) h z = ap₂ (λ (b c : ℕ). note 7 b c (pos 0)) (kept e (omega (arith, h.0))) (kept a (omega (arith, h.1)))
  does-note (OutputsTo e m) h z =
      let w = message_in m in
      ap (λ (b : ℕ). note 8 b (mark w) (number_in w)) (kept e (omega (arith, h)))
  does-note Selects h z = absurd (z refl)

-- ---- options

-- what an option whose process is row q may do
data OptionDo (q : ℕ) : Does → Type 0 where
  do-stop : (k : ℕ) → OptionDo q (Stops k)
  do-wait : OptionDo q Waits
  do-start : OptionDo q (Starts q)
  do-read : (a p : ℕ) → OptionDo q (Reads a p)
  do-input : (e a : ℕ) → OptionDo q (InputsFrom e a)

module _ (lines : ℕ) (cells : List Message) (places : List ℕ) where
  received-do : (q channel : ℕ) (e t : Index) → OptionDo q (received places lines channel e t)
  received-do q channel (Fails k) t = do-stop k
  received-do q channel (At e) (Fails k) = do-stop k
  received-do q zero (At e) (At a) = do-input e a
  received-do q (suc p) (At e) (At a) = go (ltb (get_or places p 0) lines)
    where
      go : (t : Bool) → OptionDo q (if_else t (Reads a p) Waits)
      go true = do-read a p
      go false = do-wait

  guard-do : (q : ℕ) (i : Option ChannelInput) → OptionDo q (guard_does lines cells places q i)
  unfolding input_does
  guard-do q none = do-start
  guard-do q (some i) = received-do q (host_note i.channel) (index cells i.channel.first i.channel.size i.subscript) (target_index cells i.target)

  option-do : (b : AltOption) → OptionDo b.process (option_does lines cells places b)
  unfolding guarded_does
  option-do b = go (value cells b.guard.boolean)
    where
      at : (t : Bool) → OptionDo b.process (if_else t (guard_does lines cells places b.process b.guard.input) Waits)
      at true = guard-do b.process b.guard.input
      at false = do-wait

      go : (v : Value) → OptionDo b.process (when_true v (guard_does lines cells places b.process b.guard.input) Waits)
      go (Missing k) = do-stop k
      go (Number z) = at (is_true z)

  module _ (sheet : Sheet) (x : Store) where
    -- what options come to: the first reason, or what they offer
    abbrev pub result_of : Option ℕ → List Offer → OptionsResult
    result_of none os = offers os
    result_of (some k) os = fails k

    one_more : (b : AltOption) (bs : List AltOption) (o : Option ℕ) (os : List Offer) (d : Does) → option_does lines cells places b ≡ d → OptionDo b.process d → InRange d → b.process < 1024
        → Tells (λ b. note_numbers (option_does lines cells places b)) bs (result_of o os)
        → Tells (λ b. note_numbers (option_does lines cells places b)) (b ∷ bs) (result_of (first_of (stop_of d) o) (offers_for sheet x b.row b.process d ++ os))
    one_more b bs o os d e (do-stop k) h q t = lacks-here (ap note_numbers e)
    one_more b bs none os d e do-wait h q t = waits-here (ap note_numbers e) t
    one_more b bs (some k) os d e do-wait h q t = lacks-later (λ z. let y : ◌≡◌ {A = ℕ} 0 1 = sym (ap (λ (d : Does). (note_numbers d).what) e) ∙ z in omega arith) t
    one_more b bs none os d e do-start h q t = offers-here (ap note_numbers e ∙ ap (λ (c : ℕ). note 4 c 0 (pos 0)) (kept b.process q)) refl t
    one_more b bs (some k) os d e do-start h q t = lacks-later (λ z. let y : ◌≡◌ {A = ℕ} 4 1 = sym (ap (λ (d : Does). (note_numbers d).what) e) ∙ z in omega arith) t
    one_more b bs none os d e (do-read a p) h q t =
        offers-here (ap note_numbers e ∙ ap₂ (λ (c j : ℕ). note 5 c j (pos 0)) (kept p (omega (arith, h.1))) (kept a (omega (arith, h.0)))) refl t
    one_more b bs (some k) os d e (do-read a p) h q t = lacks-later (λ z. let y : ◌≡◌ {A = ℕ} 5 1 = sym (ap (λ (d : Does). (note_numbers d).what) e) ∙ z in omega arith) t
    one_more b bs none os d e (do-input c a) h q t =
        offers-here (ap note_numbers e ∙ ap₂ (λ (c j : ℕ). note 7 c j (pos 0)) (kept c (omega (arith, h.0))) (kept a (omega (arith, h.1)))) refl t
    one_more b bs (some k) os d e (do-input c a) h q t = lacks-later (λ z. let y : ◌≡◌ {A = ℕ} 7 1 = sym (ap (λ (d : Does). (note_numbers d).what) e) ∙ z in omega arith) t

    pub options-told : (bs : List AltOption) → NotesInRange (option_notes lines cells places bs)
        → Tells (λ b. note_numbers (option_does lines cells places b)) bs (result_of (first_stop (option_notes lines cells places bs)) (flatten (map (offers_of sheet x) (option_notes lines cells places bs))))
    unfolding flatten
    options-told [] h = tells_none
    options-told (b ∷ bs) h =
        one_more b bs (first_stop (option_notes lines cells places bs)) (flatten (map (offers_of sheet x) (option_notes lines cells places bs))) (option_does lines cells places b) refl (option-do b) h.0 h.1 (options-told bs h.2)
