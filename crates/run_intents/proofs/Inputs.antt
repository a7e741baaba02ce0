-- What the code finds at the row of an input or an output is what stands there.
use mathlib.Core.Path.{◌≡◌, ap, ap₂, ◌∙◌}
use mathlib.Core.List.{List}
use Prim.Native.Nat.{ℕ, ◌≤◌}
use native.Mathlib.Omega.{arith}
use lib.IntN.{ℤ}
use Rattle.meaning.specs.declared.Index.{Index}
use Rattle.meaning.specs.Rows.{natural_at}
use Rattle.meaning.specs.Declarations.{source_at, sink_at}
use Rattle.meaning.specs.Tree.{content_at}
use Rattle.meaning.specs.Values.{Message, index, Sent, passed}
use Rattle.run_code.specs.Prepared.{referred_row, host_note, Prepared, place_at, first_of, size_of}
use Rattle.run_code.proofs.Codes.{second_is, third-is, input-first, input-size, input-host, output-first, output-size, output-host, output-capacity}
use Rattle.run_values.specs.Targets.{target_index}
use Rattle.run_intents.specs.declared.Does.{Does}
use Rattle.run_intents.specs.Does.{received, sent, input_does, output_does}
use Rattle.run_intents.specs.Rows.{input_at, output_at}

module _ {rows : List ℤ} {code : List ℕ} (p : Prepared rows code) (cells : List Message) (r : ℕ) (h : r ≤ 1024) where
  pub input-found : (lines : ℕ) (places : List ℕ) → place_at code r 0 ≡ 23 → {d k n : ℕ} {i t : Index} {o : Does}
      → i ≡ index cells (first_of code r) (size_of code r) (content_at rows (place_at code r 2)).expr
      → d ≡ place_at code r 3 → t ≡ target_index cells (content_at rows d).target → k ≡ place_at code r 1 → n ≡ place_at code k 3
      → o ≡ received places lines n i t → o ≡ input_does lines cells places (input_at rows r)
  unfolding input_does
  input-found lines places e {d} {k} {n} {i} {t} a b f j g s =
      let c = source_at rows (natural_at rows r 1) in
      let q : i ≡ index cells c.first c.size (content_at rows (referred_row rows r 2)).expr = a ∙ rw (input-first p r h e, input-size p r h e, second_is p r h 23 e (λ z. omega arith)) in
      s
      ∙ ap (λ (n : ℕ). received places lines n i t) (g ∙ ap (λ (k : ℕ). place_at code k 3) j ∙ input-host p r h e)
      ∙ ap₂ (received places lines (host_note c)) q
      (f ∙ ap (λ (d : ℕ). target_index cells (content_at rows d).target) (b ∙ third-is p r h 23 e (λ z. omega arith)))

  pub output-found : (counts : List ℕ) → place_at code r 0 ≡ 24 → {d k n m : ℕ} {i : Index} {v : Sent} {o : Does}
      → i ≡ index cells (first_of code r) (size_of code r) (content_at rows (place_at code r 2)).expr
      → d ≡ place_at code r 3 → v ≡ passed cells (content_at rows d).expr → k ≡ place_at code r 1 → n ≡ place_at code k 3 → m ≡ place_at code k 4
      → o ≡ sent counts n m i v → o ≡ output_at rows cells counts r
  unfolding output_does
  output-found counts e {d} {k} {n} {m} {i} {v} a b f j g u s =
      let c = sink_at rows (natural_at rows r 1) in
      let q : i ≡ index cells c.first c.size (content_at rows (referred_row rows r 2)).expr = a ∙ rw (output-first p r h e, output-size p r h e, second_is p r h 24 e (λ z. omega arith)) in
      s
      ∙ ap₂ (λ (n m : ℕ). sent counts n m i v) (g ∙ ap (λ (k : ℕ). place_at code k 3) j ∙ output-host p r h e) (u ∙ ap (λ (k : ℕ). place_at code k 4) j ∙ output-capacity p r h e)
      ∙ ap₂ (sent counts (host_note c) c.capacity) q
      (f ∙ ap (λ (d : ℕ). passed cells (content_at rows d).expr) (b ∙ third-is p r h 24 e (λ z. omega arith)))
