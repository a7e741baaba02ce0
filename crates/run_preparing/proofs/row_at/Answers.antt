-- `row_at` meets its contract, by the row's kind.
use mathlib.Core.Path.{◌≡◌, sym, ap, ap₂, ◌∙◌}
use Prim.Native.Nat.{ℕ, ◌<◌, ◌≤◌}
use native.Mathlib.Omega.{arith}
use mathlib.Core.List.{List}
use lib.IntN.{ℤ}
use lib.ListN.{get_or}
use Rattle.run_preparing.specs.Notes.{Noted}
use mir.Syntax.{w32}
use mir.ValLaws.{to_z-of_z}
use Rattle.meaning.specs.Rows.{row_count, kind_at}
use Rattle.agreement.proofs.TableFit.{rows-limit}
use Rattle.run_code.specs.Prepared.{row, literal_row, owner_note, next_note, assigned_row, kept_row}
use Rattle.run_code.proofs.Names.{element-names, assignment-names, block-names, input-names, output-names, monadic-number, dyadic-number}
use Rattle.run_preparing.proofs.RowLaws.{element-small, row-by-kind, low-row, kept_row_lem, high-row, parent-noted, alt-noted}
use Rattle.run_preparing.proofs.row_at.Goals as goal

-- a row of the table is below 1,024
inside : (rows : List ℤ) (r : ℕ) → row_count rows ≤ 1024 → r < row_count rows → r < 1024
inside rows r f l = omega arith

-- its notes, if it is no option
noted : {rows : List ℤ} {parents nexts owners : List ℕ} {r : ℕ} → Noted rows parents nexts owners → r < row_count rows → (k : ℕ) → (k ≡ 42 → ⊥)
    → (get_or parents r 0 ≡ owner_note rows k r) × (get_or nexts r 0 ≡ next_note rows r)
noted {rows} {parents} {nexts} {owners} {r} n l k m = (parent-noted rows r k m (n.parent r l), n.next r l)

pub element_row-requires : goal.element_row-requires
element_row-requires c =
    let kind : (k : ℕ) → c.natural-k.result ≡ k → kind_at c.args.rows.now c.args.r ≡ k = λ k e. sym c.natural-k.ensures ∙ e in
    record { accepted = c.requires.accepted; filled = c.requires.filled; named = element-names c.args.rows.now c.requires.accepted c.args.r c.requires.filled.1 (kind 11 c.in-11.is) }

pub overflow_cast-natural : goal.overflow_cast-natural
overflow_cast-natural c =
    let kind : (k : ℕ) → c.natural-k.result ≡ k → kind_at c.args.rows.now c.args.r ≡ k = λ k e. sym c.natural-k.ensures ∙ e in
    record { fits = omega (arith, c.natural.ensures, monadic-number c.args.rows.now c.requires.accepted c.args.r c.requires.filled.1 (kind 12 c.in-12.is)) }

pub referred-requires : goal.referred-requires
referred-requires c = record { few = (rows-limit c.args.rows.now c.requires.accepted); inside = (c.requires.filled.1, omega arith) }

pub overflow_cast-natural-in-13 : goal.overflow_cast-natural-in-13
overflow_cast-natural-in-13 c =
    let kind : (k : ℕ) → c.natural-k.result ≡ k → kind_at c.args.rows.now c.args.r ≡ k = λ k e. sym c.natural-k.ensures ∙ e in
    record { fits = omega (arith, c.natural-in-13.ensures, dyadic-number c.args.rows.now c.requires.accepted c.args.r c.requires.filled.1 (kind 13 c.in-13.is)) }

pub referred-requires-in-13 : goal.referred-requires-in-13
referred-requires-in-13 c = record { few = (rows-limit c.args.rows.now c.requires.accepted); inside = (c.requires.filled.1, omega arith) }

pub referred-requires-in-13-2 : goal.referred-requires-in-13-2
referred-requires-in-13-2 c = record { few = (rows-limit c.args.rows.now c.requires.accepted); inside = (c.requires.filled.1, omega arith) }

pub element_row-requires-in-22 : goal.element_row-requires-in-22
element_row-requires-in-22 c =
    let kind : (k : ℕ) → c.natural-k.result ≡ k → kind_at c.args.rows.now c.args.r ≡ k = λ k e. sym c.natural-k.ensures ∙ e in
    record { accepted = c.requires.accepted; filled = c.requires.filled; named = assignment-names c.args.rows.now c.requires.accepted c.args.r c.requires.filled.1 (kind 22 c.in-22.is) }

pub bounds-parents-r : goal.bounds-parents-r
bounds-parents-r c = inside c.args.rows.now c.args.r (rows-limit c.args.rows.now c.requires.accepted) c.requires.filled.1

pub bounds-nexts-r : goal.bounds-nexts-r
bounds-nexts-r c = inside c.args.rows.now c.args.r (rows-limit c.args.rows.now c.requires.accepted) c.requires.filled.1

pub assigned_row-requires : goal.assigned_row-requires
assigned_row-requires c =
    record { few = (rows-limit c.args.rows.now c.requires.accepted); inside = (c.requires.filled.1, rw c.element_row-in-22.ensures (element-small c.args.rows.now c.args.r)); noted = noted c.requires.noted c.requires.filled.1 22 (λ z. omega arith) }

pub overflow_cast-natural-in-23 : goal.overflow_cast-natural-in-23
overflow_cast-natural-in-23 c =
    let kind : (k : ℕ) → c.natural-k.result ≡ k → kind_at c.args.rows.now c.args.r ≡ k = λ k e. sym c.natural-k.ensures ∙ e in
    record { fits = omega (arith, c.natural-in-23.ensures, (input-names c.args.rows.now c.requires.accepted c.args.r c.requires.filled.1 (kind 23 c.in-23.is)).0, c.requires.filled.0, inside c.args.rows.now c.args.r (rows-limit c.args.rows.now c.requires.accepted) c.requires.filled.1) }

pub bounds-parents-r-in-23 : goal.bounds-parents-r-in-23
bounds-parents-r-in-23 c = inside c.args.rows.now c.args.r (rows-limit c.args.rows.now c.requires.accepted) c.requires.filled.1

pub bounds-nexts-r-in-23 : goal.bounds-nexts-r-in-23
bounds-nexts-r-in-23 c = inside c.args.rows.now c.args.r (rows-limit c.args.rows.now c.requires.accepted) c.requires.filled.1

pub kept_row-requires : goal.kept_row-requires
kept_row-requires c = record { few = (rows-limit c.args.rows.now c.requires.accepted); inside = c.requires.filled.1; noted = noted c.requires.noted c.requires.filled.1 23 (λ z. omega arith) }

pub overflow_cast-natural-in-24 : goal.overflow_cast-natural-in-24
overflow_cast-natural-in-24 c =
    let kind : (k : ℕ) → c.natural-k.result ≡ k → kind_at c.args.rows.now c.args.r ≡ k = λ k e. sym c.natural-k.ensures ∙ e in
    record { fits = omega (arith, c.natural-in-24.ensures, (output-names c.args.rows.now c.requires.accepted c.args.r c.requires.filled.1 (kind 24 c.in-24.is)).0, c.requires.filled.0, inside c.args.rows.now c.args.r (rows-limit c.args.rows.now c.requires.accepted) c.requires.filled.1) }

pub bounds-parents-r-in-24 : goal.bounds-parents-r-in-24
bounds-parents-r-in-24 c = inside c.args.rows.now c.args.r (rows-limit c.args.rows.now c.requires.accepted) c.requires.filled.1

pub bounds-nexts-r-in-24 : goal.bounds-nexts-r-in-24
bounds-nexts-r-in-24 c = inside c.args.rows.now c.args.r (rows-limit c.args.rows.now c.requires.accepted) c.requires.filled.1

pub kept_row-requires-in-24 : goal.kept_row-requires-in-24
kept_row-requires-in-24 c = record { few = (rows-limit c.args.rows.now c.requires.accepted); inside = c.requires.filled.1; noted = noted c.requires.noted c.requires.filled.1 24 (λ z. omega arith) }

pub overflow_cast-natural-in-35 : goal.overflow_cast-natural-in-35
overflow_cast-natural-in-35 c =
    let kind : (k : ℕ) → c.natural-k.result ≡ k → kind_at c.args.rows.now c.args.r ≡ k = λ k e. sym c.natural-k.ensures ∙ e in
    record { fits = omega (arith, c.natural-in-35.ensures, (block-names c.args.rows.now c.requires.accepted c.args.r c.requires.filled.1 (kind 35 c.in-35.is)).0, c.requires.filled.0, inside c.args.rows.now c.args.r (rows-limit c.args.rows.now c.requires.accepted) c.requires.filled.1) }

pub bounds-parents-r-in-35 : goal.bounds-parents-r-in-35
bounds-parents-r-in-35 c = inside c.args.rows.now c.args.r (rows-limit c.args.rows.now c.requires.accepted) c.requires.filled.1

pub bounds-nexts-r-in-35 : goal.bounds-nexts-r-in-35
bounds-nexts-r-in-35 c = inside c.args.rows.now c.args.r (rows-limit c.args.rows.now c.requires.accepted) c.requires.filled.1

pub kept_row-requires-in-35 : goal.kept_row-requires-in-35
kept_row-requires-in-35 c = record { few = (rows-limit c.args.rows.now c.requires.accepted); inside = c.requires.filled.1; noted = noted c.requires.noted c.requires.filled.1 35 (λ z. omega arith) }

pub referred-requires-in-42 : goal.referred-requires-in-42
referred-requires-in-42 c = record { few = (rows-limit c.args.rows.now c.requires.accepted); inside = (c.requires.filled.1, omega arith) }

pub bounds-owners-r : goal.bounds-owners-r
bounds-owners-r c = inside c.args.rows.now c.args.r (rows-limit c.args.rows.now c.requires.accepted) c.requires.filled.1

pub bounds-nexts-r-in-42 : goal.bounds-nexts-r-in-42
bounds-nexts-r-in-42 c = inside c.args.rows.now c.args.r (rows-limit c.args.rows.now c.requires.accepted) c.requires.filled.1

pub kept_row-requires-in-42 : goal.kept_row-requires-in-42
kept_row-requires-in-42 c =
    record { few = (rows-limit c.args.rows.now c.requires.accepted); inside = c.requires.filled.1; noted = (alt-noted c.args.rows.now c.args.r (c.requires.noted.owner c.args.r c.requires.filled.1), c.requires.noted.next c.args.r c.requires.filled.1) }

pub returns-then-k-lt20 : goal.returns-then-k-lt20
returns-then-k-lt20 c =
    c.plain-then-k-lt20.ensures ∙ low-row c.args.rows.now c.args.r c.requires.filled.1 c.natural-k.result (sym c.natural-k.ensures) c.in_default.in_default-own.rest.0.0.0.0.0.0.0.0.1 c.in_default.in_default-own.rest.0.0.0.0.0.0.0.1 c.in_default.in_default-own.rest.0.0.0.0.0.0.1 c.in_default.in_default-own.rest.0.0.0.0.0.1 c.in_default.in_default-own.rest.0.0.0.0.1 c.in_default.in_default-own.rest.0.0.0.1 c.in_default.in_default-own.rest.0.0.1 c.in_default.in_default-own.rest.0.1 c.requires.filled.0 c.if-k-lt20.true

pub referred-requires-then-k-lt44 : goal.referred-requires-then-k-lt44
referred-requires-then-k-lt44 c = record { few = (rows-limit c.args.rows.now c.requires.accepted); inside = (c.requires.filled.1, omega arith) }

pub bounds-parents-r-then-k-lt44 : goal.bounds-parents-r-then-k-lt44
bounds-parents-r-then-k-lt44 c = inside c.args.rows.now c.args.r (rows-limit c.args.rows.now c.requires.accepted) c.requires.filled.1

pub bounds-nexts-r-then-k-lt44 : goal.bounds-nexts-r-then-k-lt44
bounds-nexts-r-then-k-lt44 c = inside c.args.rows.now c.args.r (rows-limit c.args.rows.now c.requires.accepted) c.requires.filled.1

pub kept_row-requires-then-k-lt44 : goal.kept_row-requires-then-k-lt44
kept_row-requires-then-k-lt44 c = record { few = (rows-limit c.args.rows.now c.requires.accepted); inside = c.requires.filled.1; noted = noted c.requires.noted c.requires.filled.1 _ c.in_default.in_default-own.rest.1 }

pub returns-then-k-lt44 : goal.returns-then-k-lt44
returns-then-k-lt44 c =
    c.kept_row-then-k-lt44.ensures ∙ ap (kept_row c.args.rows.now c.args.r c.natural-k.result) c.referred-then-k-lt44.ensures ∙ kept_row_lem c.args.rows.now c.args.r c.requires.filled.1 c.natural-k.result (sym c.natural-k.ensures) c.in_default.in_default-own.rest.0.0.0.0.0.0.0.0.1 c.in_default.in_default-own.rest.0.0.0.0.0.0.0.1 c.in_default.in_default-own.rest.0.0.0.0.0.0.1 c.in_default.in_default-own.rest.0.0.0.0.0.1 c.in_default.in_default-own.rest.0.0.0.0.1 c.in_default.in_default-own.rest.0.0.0.1 c.in_default.in_default-own.rest.0.0.1 c.in_default.in_default-own.rest.0.1 c.if-k-lt20.false c.if-k-lt44.true

pub returns-in-10 : goal.returns-in-10
returns-in-10 c =
    let kind : (k : ℕ) → c.natural-k.result ≡ k → kind_at c.args.rows.now c.args.r ≡ k = λ k e. sym c.natural-k.ensures ∙ e in
    (rw (to_z-of_z w32 c.field.result (record { sfits = c.field.type_inv })) at c.literal.ensures) ∙ ap literal_row c.field.ensures ∙ row-by-kind c.args.rows.now c.args.r c.requires.filled.1 10 (kind 10 c.in-10.is)

pub returns-in-11 : goal.returns-in-11
returns-in-11 c =
    let kind : (k : ℕ) → c.natural-k.result ≡ k → kind_at c.args.rows.now c.args.r ≡ k = λ k e. sym c.natural-k.ensures ∙ e in
    c.element_row.ensures ∙ row-by-kind c.args.rows.now c.args.r c.requires.filled.1 11 (kind 11 c.in-11.is)

pub returns-in-12 : goal.returns-in-12
returns-in-12 c =
    let kind : (k : ℕ) → c.natural-k.result ≡ k → kind_at c.args.rows.now c.args.r ≡ k = λ k e. sym c.natural-k.ensures ∙ e in
    c.plain.ensures ∙ ap₂ (λ (a b : ℕ). row 5 a b 0) c.natural.ensures c.referred.ensures ∙ row-by-kind c.args.rows.now c.args.r c.requires.filled.1 12 (kind 12 c.in-12.is)

pub returns-in-13 : goal.returns-in-13
returns-in-13 c =
    let kind : (k : ℕ) → c.natural-k.result ≡ k → kind_at c.args.rows.now c.args.r ≡ k = λ k e. sym c.natural-k.ensures ∙ e in
    (rw (c.natural-in-13.ensures, c.referred-in-13.ensures, c.referred-in-13-2.ensures) at c.plain-in-13.ensures) ∙ row-by-kind c.args.rows.now c.args.r c.requires.filled.1 13 (kind 13 c.in-13.is)

pub returns-in-22 : goal.returns-in-22
returns-in-22 c =
    let kind : (k : ℕ) → c.natural-k.result ≡ k → kind_at c.args.rows.now c.args.r ≡ k = λ k e. sym c.natural-k.ensures ∙ e in
    c.assigned_row.ensures ∙ ap (assigned_row c.args.rows.now c.args.r) c.element_row-in-22.ensures ∙ row-by-kind c.args.rows.now c.args.r c.requires.filled.1 22 (kind 22 c.in-22.is)

pub returns-in-23 : goal.returns-in-23
returns-in-23 c =
    let kind : (k : ℕ) → c.natural-k.result ≡ k → kind_at c.args.rows.now c.args.r ≡ k = λ k e. sym c.natural-k.ensures ∙ e in
    c.kept_row.ensures ∙ ap (kept_row c.args.rows.now c.args.r 23) c.natural-in-23.ensures ∙ row-by-kind c.args.rows.now c.args.r c.requires.filled.1 23 (kind 23 c.in-23.is)

pub returns-in-24 : goal.returns-in-24
returns-in-24 c =
    let kind : (k : ℕ) → c.natural-k.result ≡ k → kind_at c.args.rows.now c.args.r ≡ k = λ k e. sym c.natural-k.ensures ∙ e in
    c.kept_row-in-24.ensures ∙ ap (kept_row c.args.rows.now c.args.r 24) c.natural-in-24.ensures ∙ row-by-kind c.args.rows.now c.args.r c.requires.filled.1 24 (kind 24 c.in-24.is)

pub returns-in-35 : goal.returns-in-35
returns-in-35 c =
    let kind : (k : ℕ) → c.natural-k.result ≡ k → kind_at c.args.rows.now c.args.r ≡ k = λ k e. sym c.natural-k.ensures ∙ e in
    c.kept_row-in-35.ensures ∙ ap (kept_row c.args.rows.now c.args.r 35) c.natural-in-35.ensures ∙ row-by-kind c.args.rows.now c.args.r c.requires.filled.1 35 (kind 35 c.in-35.is)

pub returns-in-42 : goal.returns-in-42
returns-in-42 c =
    let kind : (k : ℕ) → c.natural-k.result ≡ k → kind_at c.args.rows.now c.args.r ≡ k = λ k e. sym c.natural-k.ensures ∙ e in
    c.kept_row-in-42.ensures ∙ ap (kept_row c.args.rows.now c.args.r 42) c.referred-in-42.ensures ∙ row-by-kind c.args.rows.now c.args.r c.requires.filled.1 42 (kind 42 c.in-42.is)

pub returns-else-k-lt44 : goal.returns-else-k-lt44
returns-else-k-lt44 c =
    c.plain-in_default.ensures ∙ high-row c.args.rows.now c.args.r c.requires.filled.1 c.natural-k.result (sym c.natural-k.ensures) c.in_default.in_default-own.rest.0.0.0.0.0.0.0.0.1 c.in_default.in_default-own.rest.0.0.0.0.0.0.0.1 c.in_default.in_default-own.rest.0.0.0.0.0.0.1 c.in_default.in_default-own.rest.0.0.0.0.0.1 c.in_default.in_default-own.rest.0.0.0.0.1 c.in_default.in_default-own.rest.0.0.0.1 c.in_default.in_default-own.rest.0.0.1 c.in_default.in_default-own.rest.0.1 c.if-k-lt20.false c.if-k-lt44.false
