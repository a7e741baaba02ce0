-- By the sort of the first mark. Assumes nothing.
use mathlib.Core.Path.{refl, ◌∙◌}
use lib.IntN.{pos}
use mir.Syntax.{w32}
use mir.Val.{SFits}
use mir.ValLaws.{to_z-of_z}
use borrow.Author.Tests.{ne_eqb}
use Rattle.base_top_down.specs.Forms.{Form, row, form_size}
use Rattle.grammar.specs.TextRows.{unused, bare_row}
use Rattle.read_tokens.specs.Held.{tokens_resolved}
use Rattle.read_classes.specs.Parts.{parted_there}
use Rattle.read_parts.specs.PartForms.{exchange_form, while_form, process_by}
use Rattle.read_parts.proofs.MarkSteps.{first_found, by-mark-laid, word_room, word-laid, exchange-asked, while-asked, nothing-laid}
use borrow.Author.Rules.{rules}
use Rattle.read_parts.proofs.write_process.Goals as goal

pub write_word-requires : goal.write_word-requires
unfolding process_by form_size
write_word-requires c = word_room (first_found c.args.sorts.now c.args.values.now c.sort_at-sort.result c.first_mark-at.result c.requires.0 c.first_mark-at.ensures c.sort_at-sort.ensures) c.requires.1 13 c.in-13.is (λ (B : Form). bare_row 21) (λ B. refl) refl

pub write_word-requires-in-14 : goal.write_word-requires-in-14
unfolding process_by form_size
write_word-requires-in-14 c = word_room (first_found c.args.sorts.now c.args.values.now c.sort_at-sort.result c.first_mark-at.result c.requires.0 c.first_mark-at.ensures c.sort_at-sort.ensures) c.requires.1 14 c.in-14.is (λ (B : Form). bare_row 20) (λ B. refl) refl

pub write_word-requires-in-15 : goal.write_word-requires-in-15
unfolding process_by form_size
write_word-requires-in-15 c = word_room (first_found c.args.sorts.now c.args.values.now c.sort_at-sort.result c.first_mark-at.result c.requires.0 c.first_mark-at.ensures c.sort_at-sort.ensures) c.requires.1 15 c.in-15.is (λ (B : Form). row 30 B unused unused) (λ B. refl) refl

pub write_word-requires-in-16 : goal.write_word-requires-in-16
unfolding process_by form_size
write_word-requires-in-16 c = word_room (first_found c.args.sorts.now c.args.values.now c.sort_at-sort.result c.first_mark-at.result c.requires.0 c.first_mark-at.ensures c.sort_at-sort.ensures) c.requires.1 16 c.in-16.is (λ (B : Form). row 31 B unused unused) (λ B. refl) refl

pub write_word-requires-in-17 : goal.write_word-requires-in-17
unfolding process_by form_size
write_word-requires-in-17 c = word_room (first_found c.args.sorts.now c.args.values.now c.sort_at-sort.result c.first_mark-at.result c.requires.0 c.first_mark-at.ensures c.sort_at-sort.ensures) c.requires.1 17 c.in-17.is (λ (B : Form). row 32 B unused unused) (λ B. refl) refl

pub write_word-requires-in-18 : goal.write_word-requires-in-18
unfolding process_by form_size
write_word-requires-in-18 c = word_room (first_found c.args.sorts.now c.args.values.now c.sort_at-sort.result c.first_mark-at.result c.requires.0 c.first_mark-at.ensures c.sort_at-sort.ensures) c.requires.1 18 c.in-18.is (λ (B : Form). row 34 B unused unused) (λ B. refl) refl

pub write_while-requires : goal.write_while-requires
unfolding process_by form_size
write_while-requires c =
    let (i, f) = while-asked (first_found c.args.sorts.now c.args.values.now c.sort_at-sort.result c.first_mark-at.result c.requires.0 c.first_mark-at.ensures c.sort_at-sort.ensures) c.requires.1 c.in-19.is (λ B. refl) in
    (i, f, c.requires.2)

pub write_exchange-requires : goal.write_exchange-requires
unfolding process_by form_size
write_exchange-requires c =
    let (i, f) = exchange-asked (first_found c.args.sorts.now c.args.values.now c.sort_at-sort.result c.first_mark-at.result c.requires.0 c.first_mark-at.ensures c.sort_at-sort.ensures) c.requires.1 20 c.in-20.is (λ (B : Form). exchange_form 22 (parted_there (tokens_resolved c.args.sorts.now c.args.values.now) c.first_mark-at.result)) (λ B. refl) 22 refl (λ B. refl) in
    (i, f, c.requires.2)

pub write_exchange-requires-in-21 : goal.write_exchange-requires-in-21
unfolding process_by form_size
write_exchange-requires-in-21 c =
    let (i, f) = exchange-asked (first_found c.args.sorts.now c.args.values.now c.sort_at-sort.result c.first_mark-at.result c.requires.0 c.first_mark-at.ensures c.sort_at-sort.ensures) c.requires.1 21 c.in-21.is (λ (B : Form). exchange_form 23 (parted_there (tokens_resolved c.args.sorts.now c.args.values.now) c.first_mark-at.result)) (λ B. refl) 23 refl (λ B. refl) in
    (i, f, c.requires.2)

pub write_exchange-requires-in-22 : goal.write_exchange-requires-in-22
unfolding process_by form_size
write_exchange-requires-in-22 c =
    let (i, f) = exchange-asked (first_found c.args.sorts.now c.args.values.now c.sort_at-sort.result c.first_mark-at.result c.requires.0 c.first_mark-at.ensures c.sort_at-sort.ensures) c.requires.1 22 c.in-22.is (λ (B : Form). exchange_form 24 (parted_there (tokens_resolved c.args.sorts.now c.args.values.now) c.first_mark-at.result)) (λ B. refl) 24 refl (λ B. refl) in
    (i, f, c.requires.2)

pub returns-in-13 : goal.returns-in-13
unfolding process_by form_size
returns-in-13 c =
    let w = c.write_word in
    ((refl, refl), word-laid (first_found c.args.sorts.now c.args.values.now c.sort_at-sort.result c.first_mark-at.result c.requires.0 c.first_mark-at.ensures c.sort_at-sort.ensures) c.requires.1 13 c.in-13.is (λ (B : Form). bare_row 21) (λ B. refl) 21 (pos 0) (pos 0) w.result _ refl refl refl w.ensures.0 w.ensures.1)

pub returns-in-14 : goal.returns-in-14
unfolding process_by form_size
returns-in-14 c =
    let w = c.write_word-in-14 in
    ((refl, refl), word-laid (first_found c.args.sorts.now c.args.values.now c.sort_at-sort.result c.first_mark-at.result c.requires.0 c.first_mark-at.ensures c.sort_at-sort.ensures) c.requires.1 14 c.in-14.is (λ (B : Form). bare_row 20) (λ B. refl) 20 (pos 0) (pos 0) w.result _ refl refl refl w.ensures.0 w.ensures.1)

pub returns-in-15 : goal.returns-in-15
unfolding process_by form_size
returns-in-15 c =
    let w = c.write_word-in-15 in
    let l = c.link_to in
    let fits : SFits w32 l.result = search rules in
    ((refl, refl), word-laid (first_found c.args.sorts.now c.args.values.now c.sort_at-sort.result c.first_mark-at.result c.requires.0 c.first_mark-at.ensures c.sort_at-sort.ensures) c.requires.1 15 c.in-15.is (λ (B : Form). row 30 B unused unused) (λ B. refl) 30 _ _ w.result _ refl refl (to_z-of_z w32 l.result fits ∙ l.ensures) w.ensures.0 w.ensures.1)

pub returns-in-16 : goal.returns-in-16
unfolding process_by form_size
returns-in-16 c =
    let w = c.write_word-in-16 in
    let l = c.link_to-in-16 in
    let fits : SFits w32 l.result = search rules in
    ((refl, refl), word-laid (first_found c.args.sorts.now c.args.values.now c.sort_at-sort.result c.first_mark-at.result c.requires.0 c.first_mark-at.ensures c.sort_at-sort.ensures) c.requires.1 16 c.in-16.is (λ (B : Form). row 31 B unused unused) (λ B. refl) 31 _ _ w.result _ refl refl (to_z-of_z w32 l.result fits ∙ l.ensures) w.ensures.0 w.ensures.1)

pub returns-in-17 : goal.returns-in-17
unfolding process_by form_size
returns-in-17 c =
    let w = c.write_word-in-17 in
    let l = c.link_to-in-17 in
    let fits : SFits w32 l.result = search rules in
    ((refl, refl), word-laid (first_found c.args.sorts.now c.args.values.now c.sort_at-sort.result c.first_mark-at.result c.requires.0 c.first_mark-at.ensures c.sort_at-sort.ensures) c.requires.1 17 c.in-17.is (λ (B : Form). row 32 B unused unused) (λ B. refl) 32 _ _ w.result _ refl refl (to_z-of_z w32 l.result fits ∙ l.ensures) w.ensures.0 w.ensures.1)

pub returns-in-18 : goal.returns-in-18
unfolding process_by form_size
returns-in-18 c =
    let w = c.write_word-in-18 in
    let l = c.link_to-in-18 in
    let fits : SFits w32 l.result = search rules in
    ((refl, refl), word-laid (first_found c.args.sorts.now c.args.values.now c.sort_at-sort.result c.first_mark-at.result c.requires.0 c.first_mark-at.ensures c.sort_at-sort.ensures) c.requires.1 18 c.in-18.is (λ (B : Form). row 34 B unused unused) (λ B. refl) 34 _ _ w.result _ refl refl (to_z-of_z w32 l.result fits ∙ l.ensures) w.ensures.0 w.ensures.1)

pub returns-in-19 : goal.returns-in-19
unfolding process_by form_size
returns-in-19 c =
    let w = c.write_while in
    (w.ensures.0, by-mark-laid (first_found c.args.sorts.now c.args.values.now c.sort_at-sort.result c.first_mark-at.result c.requires.0 c.first_mark-at.ensures c.sort_at-sort.ensures) c.requires.1 19 c.in-19.is (while_form (parted_there (tokens_resolved c.args.sorts.now c.args.values.now) c.first_mark-at.result)) (λ B. refl) w.result _ w.ensures.1.0 w.ensures.1.1)

pub returns-in-20 : goal.returns-in-20
unfolding process_by form_size
returns-in-20 c =
    let w = c.write_exchange in
    (w.ensures.0, by-mark-laid (first_found c.args.sorts.now c.args.values.now c.sort_at-sort.result c.first_mark-at.result c.requires.0 c.first_mark-at.ensures c.sort_at-sort.ensures) c.requires.1 20 c.in-20.is (λ (B : Form). exchange_form 22 (parted_there (tokens_resolved c.args.sorts.now c.args.values.now) c.first_mark-at.result)) (λ B. refl) w.result _ w.ensures.1.0 w.ensures.1.1)

pub returns-in-21 : goal.returns-in-21
unfolding process_by form_size
returns-in-21 c =
    let w = c.write_exchange-in-21 in
    (w.ensures.0, by-mark-laid (first_found c.args.sorts.now c.args.values.now c.sort_at-sort.result c.first_mark-at.result c.requires.0 c.first_mark-at.ensures c.sort_at-sort.ensures) c.requires.1 21 c.in-21.is (λ (B : Form). exchange_form 23 (parted_there (tokens_resolved c.args.sorts.now c.args.values.now) c.first_mark-at.result)) (λ B. refl) w.result _ w.ensures.1.0 w.ensures.1.1)

pub returns-in-22 : goal.returns-in-22
unfolding process_by form_size
returns-in-22 c =
    let w = c.write_exchange-in-22 in
    (w.ensures.0, by-mark-laid (first_found c.args.sorts.now c.args.values.now c.sort_at-sort.result c.first_mark-at.result c.requires.0 c.first_mark-at.ensures c.sort_at-sort.ensures) c.requires.1 22 c.in-22.is (λ (B : Form). exchange_form 24 (parted_there (tokens_resolved c.args.sorts.now c.args.values.now) c.first_mark-at.result)) (λ B. refl) w.result _ w.ensures.1.0 w.ensures.1.1)

pub returns-in_default : goal.returns-in_default
unfolding process_by form_size
returns-in_default c =
    let s = c.sort_at-sort.result in
    ((refl, refl), nothing-laid (first_found c.args.sorts.now c.args.values.now c.sort_at-sort.result c.first_mark-at.result c.requires.0 c.first_mark-at.ensures c.sort_at-sort.ensures) c.requires.1 (λ B. rw (ne_eqb s 13 c.in_default.in_default-own.rest.0.0.0.0.0.0.0.0.0.1, ne_eqb s 14 c.in_default.in_default-own.rest.0.0.0.0.0.0.0.0.1, ne_eqb s 15 c.in_default.in_default-own.rest.0.0.0.0.0.0.0.1, ne_eqb s 16 c.in_default.in_default-own.rest.0.0.0.0.0.0.1, ne_eqb s 17 c.in_default.in_default-own.rest.0.0.0.0.0.1, ne_eqb s 18 c.in_default.in_default-own.rest.0.0.0.0.1, ne_eqb s 19 c.in_default.in_default-own.rest.0.0.0.1, ne_eqb s 20 c.in_default.in_default-own.rest.0.0.1, ne_eqb s 21 c.in_default.in_default-own.rest.0.1, ne_eqb s 22 c.in_default.in_default-own.rest.1) refl))
