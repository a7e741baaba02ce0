-- What a prepared row says of the tree: the rows that its numbers name, and the channels of inputs and outputs.
use mathlib.Core.Path.{◌≡◌, refl, sym, ap, ap₂, ◌∙◌}
use mathlib.Core.Option.{Option, none, some}
use mathlib.Core.Bool.{Bool, true, false}
use mathlib.Core.List.{List, [], ◌∷◌, Memᴰ}
use Prim.Native.Nat.{ℕ, suc, ◌+◌, ◌*◌, ◌/◌, ◌%◌, ◌<◌, ◌≤◌}
use native.Mathlib.Omega.{arith}
use lib.IntN.{ℤ, pos, negsuc, ◌+ℤ◌, ◌-ℤ◌, +ℤ-neg_ℤ_cancel}
use lib.Signed.{non_neg, ◌≤ℤ◌, pos-nat_abs}
use lib.Dec.{T, eqb, leb→le}
use borrow.Author.Tests.{le-ltb}
use Rattle.meaning.specs.declared.Value.TheVariants.{Number}
use Rattle.meaning.specs.declared.Index.{Index}
use Rattle.meaning.specs.declared.Index.TheVariants.{At, Fails}
use Rattle.meaning.specs.Basics.{if_else}
use Rattle.meaning.specs.Limits.{min_number}
use Rattle.meaning.specs.Values.{in_array}
use Rattle.meaning.specs.Rows.{row_count, field_at, natural_of, natural_at, kind_at}
use Rattle.meaning.specs.Kinds.{shape_of, shapes, shape_in, processes}
use Rattle.meaning.specs.References.{of-a, of-b, IsTarget}
use Rattle.meaning.specs.Faults.{Leads}
use Rattle.meaning.specs.Declarations.{declarations, Variable, Channel, variable_at, source_at, sink_at}
use Rattle.meaning.specs.Tree.{ChannelInput, IfChoice, AltOption, skip, assign, input, output, conditional, loop, alternation, block, Process, node, Processes, empty, also, Content, of_process, of_guarded, of_guard_row, of_link, and_process, content_of, content_at, or_stop}
use Rattle.meaning.specs.State.{program, process_at}
use Rattle.meaning.specs.ContentClaims.{higher_content}
use Rattle.meaning.proofs.AnswerLaws.{accepted}
use Rattle.agreement.proofs.TableFit.{rows-limit}
use Rattle.agreement.proofs.TableTree.{process-is}
use Rattle.agreement.proofs.TableStarts.{is-process}
use Rattle.agreement.proofs.TableReferences.{while-shape, block-shape, choice-shape, option-shape, leads-at}
use Rattle.base_layout.proofs.Parts.{part-of-kind}
use Rattle.base_layout.proofs.RowNodes.{node_of}
use Rattle.run_code.specs.declared.Row.{Row}
use Rattle.run_code.specs.Prepared.{row, raised, fixed, host_note, kind_in, referred_row, subscripted_row, strip_of, element_row, row_of_kind, row_at, Prepared, place_at, literal_of, first_of, size_of, host_of, capacity_of, strip_at}
use Rattle.run_code.proofs.Entries.{what-at, first-at, second_at, third_at, parent-at, next-at}
use Rattle.run_code.proofs.RowKinds.{kind_from, declarations-few, kind-told, row-of-kind, in-table}
use Rattle.run_code.proofs.Names.{DeclaresVariable, DeclaresChannel, literal-least, element-names, assignment-names, block-names, input-names, output-names, variable-row, source_row, sink-row}
use Rattle.run_code.proofs.Referred.{referred-is, referred-part}
use Rattle.run_code.proofs.Inside.{variable-within}

-- the bits of a number make it up again
lowered-raised : (x : ℤ) → min_number ≤ℤ x → pos (raised x % 65536 + 65536 * (raised x / 65536)) -ℤ pos 2147483648 ≡ x
lowered-raised x h =
    let e : raised x % 65536 + 65536 * (raised x / 65536) ≡ raised x = omega arith in
    ap (λ (n : ℕ). pos n -ℤ pos 2147483648) e ∙ ap (λ (y : ℤ). y -ℤ pos 2147483648) (pos-nat_abs (x +ℤ pos 2147483648) (not-below x h)) ∙ +ℤ-neg_ℤ_cancel x (pos 2147483648)
  where
    not-below : (x : ℤ) → min_number ≤ℤ x → T (non_neg (x +ℤ pos 2147483648))
    not-below (pos n) h = tt
    not-below (negsuc n) h = rw (le-ltb 2147483648 (suc n) (omega (arith, leb→le n 2147483647 h.le))) tt

-- an element whose subscript is no literal: the row of its variable, and the subscript's
pub subscripted : (rows : List ℤ) (a b : ℕ) → (subscripted_row rows a b).what ≡ 4 → ((subscripted_row rows a b).first ≡ a) × ((subscripted_row rows a b).second ≡ b)
unfolding subscripted_row
subscripted rows a b = go (eqb (kind_in rows b) 10)
  where
    v : Variable
    v = variable_at rows a

    inner : (i : Index) → (fixed i).what ≡ 4 → ((fixed i).first ≡ a) × ((fixed i).second ≡ b)
    inner (At i) e = absurd (omega arith)
    inner (Fails k) e = absurd (omega arith)

    go : (t : Bool) → (if_else t (fixed (in_array v.first v.size (Number (field_at rows b 1)))) (row 4 a b 0)).what ≡ 4
        → ((if_else t (fixed (in_array v.first v.size (Number (field_at rows b 1)))) (row 4 a b 0)).first ≡ a) × ((if_else t (fixed (in_array v.first v.size (Number (field_at rows b 1)))) (row 4 a b 0)).second ≡ b)
    go true e = inner (in_array v.first v.size (Number (field_at rows b 1))) e
    go false e = (refl, refl)

module _ {rows : List ℤ} {code : List ℕ} (p : Prepared rows code) where
  pub few : row_count rows ≤ 1024
  few = rows-limit rows p.accepted

  -- a row of the kind of a process is a process
  process-of-kind : (t : ℕ) → t < row_count rows → Memᴰ (kind_at rows t) processes → (content_at rows t).process ≡ some (process_at (program rows) t)
  process-of-kind t l m =
      let (k, ms, e) = is-process rows t l m in
      e ∙ ap some (sym (process-is rows t ∙ ap or_stop e))

  module _ (r : ℕ) (h : r ≤ 1024) where
    -- ---- the row of the table, and its numbers, from what it is
    module _ (n : ℕ) (e : place_at code r 0 ≡ n) (z : kind_from n ≡ 0 → ⊥) where
      kind-found : kind_in rows r ≡ kind_from n
      kind-found = kind-told rows r n (sym (what-at p r h) ∙ e) (λ i. z (ap kind_from i))

      pub here : r < row_count rows
      here = (in-table rows r (kind_from n) kind-found z).0

      pub kind-is : kind_at rows r ≡ kind_from n
      kind-is = (in-table rows r (kind_from n) kind-found z).1

      pub row_is : row_at rows r ≡ row_of_kind rows r (kind_from n)
      row_is = row-of-kind rows r (kind_from n) kind-found

      pub first-is : place_at code r 1 ≡ (row_of_kind rows r (kind_from n)).first
      first-is = first-at p r h ∙ ap (λ (w : Row). w.first) row_is

      pub second_is : place_at code r 2 ≡ (row_of_kind rows r (kind_from n)).second
      second_is = second_at p r h ∙ ap (λ (w : Row). w.second) row_is

      pub third-is : place_at code r 3 ≡ (row_of_kind rows r (kind_from n)).third
      third-is = third_at p r h ∙ ap (λ (w : Row). w.third) row_is

      pub parent_is : place_at code r 4 ≡ (row_of_kind rows r (kind_from n)).parent
      parent_is = parent-at p r h ∙ ap (λ (w : Row). w.parent) row_is

      pub content-is : content_at rows r ≡ content_of rows r (higher_content rows r) (node_of (kind_from n) (field_at rows r 1) (natural_at rows r 1) (natural_at rows r 2) (natural_at rows r 3))
      content-is = part-of-kind rows r (kind_from n) here kind-is

    -- what stands at the row that a field refers to
    pub seen : (j : ℕ) {b : ℕ} → b ≡ referred_row rows r j → higher_content rows r (natural_at rows r j) ≡ content_at rows b
    seen j e = referred-part rows few r j ∙ ap (content_at rows) (sym e)

    -- ---- a literal
    pub literal-is : place_at code r 0 ≡ 1 → literal_of code r ≡ field_at rows r 1
    literal-is e =
        let z : kind_from 1 ≡ 0 → ⊥ = λ z. omega arith in
        ap₂ (λ (a b : ℕ). pos (a + 65536 * b) -ℤ pos 2147483648) (second_is 1 e z) (third-is 1 e z)
        ∙ lowered-raised (field_at rows r 1) (literal-least rows p.accepted r (here 1 e z) (kind-is 1 e z))

    -- ---- SKIP
    pub skip-row : place_at code r 0 ≡ 21 → content_at rows r ≡ of_guarded (node skip r empty) none
    skip-row e = content-is 21 e (λ z. omega arith)

    -- ---- the declaration that it names
    module _ {w : Row} (e : row_at rows (natural_at rows r 1) ≡ w) (d : natural_at rows r 1 < declarations rows) (f : place_at code r 1 ≡ natural_at rows r 1) where
      named-inside : natural_at rows r 1 ≤ 1024
      named-inside = omega (arith, declarations-few rows, few)

      named-first : first_of code r ≡ w.first
      named-first = ap (λ (a : ℕ). place_at code a 1) f ∙ first-at p _ named-inside ∙ ap (λ (w : Row). w.first) e

      named-size : size_of code r ≡ w.second
      named-size = ap (λ (a : ℕ). place_at code a 2) f ∙ second_at p _ named-inside ∙ ap (λ (w : Row). w.second) e

      named-host : host_of code r ≡ w.third
      named-host = ap (λ (a : ℕ). place_at code a 3) f ∙ third_at p _ named-inside ∙ ap (λ (w : Row). w.third) e

      named-capacity : capacity_of code r ≡ w.parent
      named-capacity = ap (λ (a : ℕ). place_at code a 4) f ∙ parent-at p _ named-inside ∙ ap (λ (w : Row). w.parent) e

      named-strip : strip_at code r ≡ w.next
      named-strip = ap (λ (a : ℕ). place_at code a 5) f ∙ next-at p _ named-inside ∙ ap (λ (w : Row). w.next) e

    -- of an element, of an assignment to one
    abbrev variable : Variable
    variable = variable_at rows (natural_at rows r 1)

    module _ (e : place_at code r 0 ≡ 4) where
      its-variable : DeclaresVariable rows (natural_at rows r 1)
      its-variable = element-names rows p.accepted r (here 4 e (λ z. omega arith)) (kind-is 4 e (λ z. omega arith))

      its-row : place_at code r 1 ≡ natural_at rows r 1
      its-row = first-is 4 e (λ z. omega arith) ∙ (subscripted rows (natural_at rows r 1) (referred_row rows r 2) (sym (what-at p r h ∙ ap (λ (w : Row). w.what) (row_is 4 e (λ z. omega arith))) ∙ e)).0

      pub element-first : first_of code r ≡ variable.first
      element-first = named-first (variable-row rows (natural_at rows r 1) its-variable) its-variable.0 its-row

      pub element-size : size_of code r ≡ variable.size
      element-size = named-size (variable-row rows (natural_at rows r 1) its-variable) its-variable.0 its-row

    module _ (e : place_at code r 0 ≡ 48) where
      this-variable : DeclaresVariable rows (natural_at rows r 1)
      this-variable = assignment-names rows p.accepted r (here 48 e (λ z. omega arith)) (kind-is 48 e (λ z. omega arith))

      this-row : place_at code r 1 ≡ natural_at rows r 1
      this-row =
          let k : 44 + (element_row rows r).what ≡ 48 = sym (what-at p r h ∙ ap (λ (w : Row). w.what) (row_is 48 e (λ z. omega arith))) ∙ e in
          first-is 48 e (λ z. omega arith) ∙ (subscripted rows (natural_at rows r 1) (referred_row rows r 2) (omega arith)).0

      pub assigned-first : first_of code r ≡ variable.first
      assigned-first = named-first (variable-row rows (natural_at rows r 1) this-variable) this-variable.0 this-row

      pub assigned-size : size_of code r ≡ variable.size
      assigned-size = named-size (variable-row rows (natural_at rows r 1) this-variable) this-variable.0 this-row

    -- an input, with the channel that it names
    abbrev source : Channel
    source = source_at rows (natural_at rows r 1)

    abbrev pub input_at : ChannelInput
    input_at = record { channel = source; subscript = (content_at rows (place_at code r 2)).expr; target = (content_at rows (place_at code r 3)).target }

    module _ (e : place_at code r 0 ≡ 23) where
      pub input-row : content_at rows r ≡ of_guarded (node (input input_at) r empty) (some input_at)
      input-row =
          content-is 23 e (λ z. omega arith)
          ∙ ap₂ (λ (b c : Content). let i : ChannelInput = record { channel = source; subscript = b.expr; target = c.target } in of_guarded (node (input i) r empty) (some i))
          (seen 2 (second_is 23 e (λ z. omega arith))) (seen 3 (third-is 23 e (λ z. omega arith)))

      its-channel : DeclaresChannel rows 1 (natural_at rows r 1)
      its-channel = input-names rows p.accepted r (here 23 e (λ z. omega arith)) (kind-is 23 e (λ z. omega arith))

      pub input-first : first_of code r ≡ source.first
      input-first = named-first (source_row rows (natural_at rows r 1) its-channel) its-channel.0 (first-is 23 e (λ z. omega arith))

      pub input-size : size_of code r ≡ source.size
      input-size = named-size (source_row rows (natural_at rows r 1) its-channel) its-channel.0 (first-is 23 e (λ z. omega arith))

      pub input-host : host_of code r ≡ host_note source
      input-host = named-host (source_row rows (natural_at rows r 1) its-channel) its-channel.0 (first-is 23 e (λ z. omega arith))

    -- an output
    abbrev sink : Channel
    sink = sink_at rows (natural_at rows r 1)

    module _ (e : place_at code r 0 ≡ 24) where
      pub output_row : content_at rows r ≡ of_process (node (output sink (content_at rows (place_at code r 2)).expr (content_at rows (place_at code r 3)).expr) r empty)
      output_row =
          content-is 24 e (λ z. omega arith)
          ∙ ap₂ (λ (b c : Content). of_process (node (output sink b.expr c.expr) r empty)) (seen 2 (second_is 24 e (λ z. omega arith))) (seen 3 (third-is 24 e (λ z. omega arith)))

      this-channel : DeclaresChannel rows 2 (natural_at rows r 1)
      this-channel = output-names rows p.accepted r (here 24 e (λ z. omega arith)) (kind-is 24 e (λ z. omega arith))

      pub output-first : first_of code r ≡ sink.first
      output-first = named-first (sink-row rows (natural_at rows r 1) this-channel) this-channel.0 (first-is 24 e (λ z. omega arith))

      pub output-size : size_of code r ≡ sink.size
      output-size = named-size (sink-row rows (natural_at rows r 1) this-channel) this-channel.0 (first-is 24 e (λ z. omega arith))

      pub output-host : host_of code r ≡ host_note sink
      output-host = named-host (sink-row rows (natural_at rows r 1) this-channel) this-channel.0 (first-is 24 e (λ z. omega arith))

      pub output-capacity : capacity_of code r ≡ sink.capacity
      output-capacity = named-capacity (sink-row rows (natural_at rows r 1) this-channel) this-channel.0 (first-is 24 e (λ z. omega arith))

      pub output-strip : strip_at code r ≡ strip_of rows sink
      output-strip = named-strip (sink-row rows (natural_at rows r 1) this-channel) this-channel.0 (first-is 24 e (λ z. omega arith))

    -- ---- processes with members: from the link of number 1 on
    pub if-row : place_at code r 0 ≡ 32 → content_at rows r ≡ of_process (node (conditional (content_at rows (place_at code r 1)).tests) r (content_at rows (place_at code r 1)).listed)
    if-row e = content-is 32 e (λ z. omega arith) ∙ ap (λ (c : Content). of_process (node (conditional c.tests) r c.listed)) (seen 1 (first-is 32 e (λ z. omega arith)))

    pub alt-row : place_at code r 0 ≡ 34 → content_at rows r ≡ of_process (node (alternation (content_at rows (place_at code r 1)).options) r (content_at rows (place_at code r 1)).listed)
    alt-row e = content-is 34 e (λ z. omega arith) ∙ ap (λ (c : Content). of_process (node (alternation c.options) r c.listed)) (seen 1 (first-is 34 e (λ z. omega arith)))

    -- ---- fields that refer to a process, in an accepted table
    abbrev Refers : ℕ → Type 0
    Refers j = (natural_at rows r j ≡ referred_row rows r j) × ((content_at rows (referred_row rows r j)).process ≡ some (process_at (program rows) (referred_row rows r j)))

    to-process : (j t : ℕ) → natural_at rows r j ≡ t → IsTarget rows r processes t → Refers j
    to-process j t e i =
        let s : referred_row rows r j ≡ t = referred-is rows r j t e i.0 i.1 in
        rw s (e, process-of-kind t i.1 i.2)

    of-while : r < row_count rows → kind_at rows r ≡ 33 → Refers 2
    unfolding shape_of shapes shape_in Leads
    of-while l e =
        let (t, z, i) = leads-at rows ((accepted rows).0 p.accepted) r 33 while-shape l (e, omega arith, refl) of-b in
        to-process 2 t (ap natural_of z) i

    of-block : r < row_count rows → kind_at rows r ≡ 35 → Refers 2
    unfolding shape_of shapes shape_in Leads
    of-block l e =
        let (t, z, i) = leads-at rows ((accepted rows).0 p.accepted) r 35 block-shape l (e, omega arith, refl) of-b in
        to-process 2 t (ap natural_of z) i

    of-choice : r < row_count rows → kind_at rows r ≡ 41 → Refers 1
    unfolding shape_of shapes shape_in Leads
    of-choice l e =
        let (t, z, i) = leads-at rows ((accepted rows).0 p.accepted) r 41 choice-shape l (e, omega arith, refl) of-a in
        to-process 1 t (ap natural_of z) i

    of-option : r < row_count rows → kind_at rows r ≡ 42 → Refers 1
    unfolding shape_of shapes shape_in Leads
    of-option l e =
        let (t, z, i) = leads-at rows ((accepted rows).0 p.accepted) r 42 option-shape l (e, omega arith, refl) of-a in
        to-process 1 t (ap natural_of z) i

    -- the process of a WHILE or a block, of number 2
    only : place_at code r 2 ≡ referred_row rows r 2 → Refers 2 → and_process (higher_content rows r (natural_at rows r 2)).process empty ≡ also (process_at (program rows) (place_at code r 2)) empty
    only two f =
        ap (λ (o : Option Process). and_process o empty)
        (ap (λ (c : Content). c.process) (seen 2 refl) ∙ f.1 ∙ ap (λ (b : ℕ). some (process_at (program rows) b)) (sym two))

    -- ---- a WHILE: number 1 its test, number 2 its body
    module _ (e : place_at code r 0 ≡ 33) where
      while-body : Refers 2
      while-body = of-while (here 33 e (λ z. omega arith)) (kind-is 33 e (λ z. omega arith))

      pub while-row : content_at rows r ≡ of_process (node (loop (content_at rows (place_at code r 1)).expr (place_at code r 2)) r (also (process_at (program rows) (place_at code r 2)) empty))
      while-row =
          let two = second_is 33 e (λ z. omega arith) in
          content-is 33 e (λ z. omega arith)
          ∙ ap₂ (λ (a : Content) (ms : Processes). of_process (node (loop a.expr (natural_at rows r 2)) r ms)) (seen 1 (first-is 33 e (λ z. omega arith))) (only two while-body)
          ∙ ap (λ (b : ℕ). of_process (node (loop (content_at rows (place_at code r 1)).expr b) r (also (process_at (program rows) (place_at code r 2)) empty))) (while-body.0 ∙ sym two)

    -- ---- a block: number 1 the row of its variable, number 2 its process
    module _ (e : place_at code r 0 ≡ 35) where
      block-refers : Refers 2
      block-refers = of-block (here 35 e (λ z. omega arith)) (kind-is 35 e (λ z. omega arith))

      pub block_row : content_at rows r ≡ of_process (node (block (variable_at rows (place_at code r 1))) r (also (process_at (program rows) (place_at code r 2)) empty))
      block_row =
          content-is 35 e (λ z. omega arith)
          ∙ ap₂ (λ (a : ℕ) (ms : Processes). of_process (node (block (variable_at rows a)) r ms)) (sym (first-is 35 e (λ z. omega arith))) (only (second_is 35 e (λ z. omega arith)) block-refers)

      -- number 1 is the row of a declaration
      pub block-variable : DeclaresVariable rows (place_at code r 1)
      block-variable = rw (first-is 35 e (λ z. omega arith)) (block-names rows p.accepted r (here 35 e (λ z. omega arith)) (kind-is 35 e (λ z. omega arith)))

      pub block-first : first_of code r ≡ (variable_at rows (place_at code r 1)).first
      block-first = first-at p _ (omega (arith, block-variable.0, declarations-few rows, few)) ∙ ap (λ (w : Row). w.first) (variable-row rows _ block-variable)

      pub block_size : size_of code r ≡ (variable_at rows (place_at code r 1)).size
      block_size = second_at p _ (omega (arith, block-variable.0, declarations-few rows, few)) ∙ ap (λ (w : Row). w.second) (variable-row rows _ block-variable)

      -- its cells are among 256
      pub block-cells : first_of code r + size_of code r ≤ 256
      block-cells = rw (block-first, block_size) (variable-within rows p.accepted (place_at code r 1) block-variable.0)

    -- ---- links: number 1 the process, number 2 the next link, number 3 a choice's boolean or an option's guard
    module _ (one : place_at code r 1 ≡ referred_row rows r 1) (two : place_at code r 2 ≡ referred_row rows r 2) (f : Refers 1) where
      named : natural_at rows r 1 ≡ place_at code r 1
      named = f.0 ∙ sym one

      linked : and_process (higher_content rows r (natural_at rows r 1)).process (higher_content rows r (natural_at rows r 2)).listed
          ≡ also (process_at (program rows) (place_at code r 1)) (content_at rows (place_at code r 2)).listed
      linked =
          ap₂ (λ (a b : Content). and_process a.process b.listed) (seen 1 one) (seen 2 two)
          ∙ ap (λ (o : Option Process). and_process o (content_at rows (place_at code r 2)).listed)
          (ap (λ (b : ℕ). (content_at rows b).process) one ∙ f.1 ∙ ap (λ (b : ℕ). some (process_at (program rows) b)) (sym one))

    module _ (e : place_at code r 0 ≡ 41) where
      choice-process : Refers 1
      choice-process = of-choice (here 41 e (λ z. omega arith)) (kind-is 41 e (λ z. omega arith))

      pub choice-row : content_at rows r
          ≡ of_link (also (process_at (program rows) (place_at code r 1)) (content_at rows (place_at code r 2)).listed)
          (record { boolean = (content_at rows (place_at code r 3)).expr; process = place_at code r 1 } ∷ (content_at rows (place_at code r 2)).tests) []
      choice-row =
          content-is 41 e (λ z. omega arith)
          ∙ ap₂ (λ (ms : Processes) (ts : List IfChoice). of_link ms ts []) (linked (first-is 41 e (λ z. omega arith)) (second_is 41 e (λ z. omega arith)) choice-process)
          (ap₂ (λ (a : ℕ) (c : Content). let t : IfChoice = record { boolean = c.expr; process = a } in t ∷ (higher_content rows r (natural_at rows r 2)).tests)
          (named (first-is 41 e (λ z. omega arith)) (second_is 41 e (λ z. omega arith)) choice-process) (seen 3 (third-is 41 e (λ z. omega arith)))
          ∙ ap (λ (b : Content). let t : IfChoice = record { boolean = (content_at rows (place_at code r 3)).expr; process = place_at code r 1 } in t ∷ b.tests) (seen 2 (second_is 41 e (λ z. omega arith))))

    module _ (e : place_at code r 0 ≡ 42) where
      option-process : Refers 1
      option-process = of-option (here 42 e (λ z. omega arith)) (kind-is 42 e (λ z. omega arith))

      pub option-row : content_at rows r
          ≡ of_link (also (process_at (program rows) (place_at code r 1)) (content_at rows (place_at code r 2)).listed) []
          (record { row = r; guard = (content_at rows (place_at code r 3)).guard; process = place_at code r 1 } ∷ (content_at rows (place_at code r 2)).options)
      option-row =
          content-is 42 e (λ z. omega arith)
          ∙ ap₂ (λ (ms : Processes) (bs : List AltOption). of_link ms [] bs) (linked (first-is 42 e (λ z. omega arith)) (second_is 42 e (λ z. omega arith)) option-process)
          (ap₂ (λ (a : ℕ) (c : Content). let t : AltOption = record { row = r; guard = c.guard; process = a } in t ∷ (higher_content rows r (natural_at rows r 2)).options)
          (named (first-is 42 e (λ z. omega arith)) (second_is 42 e (λ z. omega arith)) option-process) (seen 3 (third-is 42 e (λ z. omega arith)))
          ∙ ap (λ (b : Content). let t : AltOption = record { row = r; guard = (content_at rows (place_at code r 3)).guard; process = place_at code r 1 } in t ∷ b.options) (seen 2 (second_is 42 e (λ z. omega arith))))

    -- a guard: number 1 its boolean, number 2 its input or SKIP
    pub guard-row : place_at code r 0 ≡ 43 → content_at rows r ≡ of_guard_row (record { boolean = (content_at rows (place_at code r 1)).expr; input = (content_at rows (place_at code r 2)).guard.input })
    guard-row e =
        content-is 43 e (λ z. omega arith)
        ∙ ap₂ (λ (a b : Content). of_guard_row (record { boolean = a.expr; input = b.guard.input })) (seen 1 (first-is 43 e (λ z. omega arith))) (seen 2 (second_is 43 e (λ z. omega arith)))

    -- ---- an assignment: number 3 its value
    pub assign-row : (n : ℕ) → place_at code r 0 ≡ n → kind_from n ≡ 22
        → content_at rows r ≡ of_process (node (assign (variable_at rows (natural_at rows r 1)) (content_at rows (referred_row rows r 2)).expr (content_at rows (place_at code r 3)).expr) r empty)
    assign-row n e i =
        let z : kind_from n ≡ 0 → ⊥ = λ j. let q : ◌≡◌ {A = ℕ} 22 0 = sym i ∙ j in omega arith in
        part-of-kind rows r 22 (here n e z) (kind-is n e z ∙ i)
        ∙ ap₂ (λ (b c : Content). of_process (node (assign (variable_at rows (natural_at rows r 1)) b.expr c.expr) r empty)) (seen 2 refl)
        (seen 3 (third-is n e z ∙ ap (λ (k : ℕ). (row_of_kind rows r k).third) i))
