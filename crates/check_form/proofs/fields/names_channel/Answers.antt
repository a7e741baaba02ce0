-- By the row that the number names. Assumes nothing.
use mathlib.Core.Path.{◌≡◌, sym, ap, ◌∙◌}
use mathlib.Core.Bool.{true, false}
use Prim.Native.Nat.{ℕ}
use mir.Syntax.{w32}
use mir.ValLaws.{to_z-of_z}
use Rattle.meaning.specs.Basics.{any_passes, among}
use Rattle.meaning.specs.Declarations.{is_channel, has_role}
use Rattle.base_kinds.specs.Table.{numbers_in}
use Rattle.base_kinds.proofs.Masks.{one-of-roles}
use Rattle.check_form.proofs.fields.names_channel.Goals as goal

pub returns-then-is_channel : goal.returns-then-is_channel
returns-then-is_channel c =
    let rows = c.args.rows.now in
    let q = c.in-Some.q in
    let roles = numbers_in c.args.roles in
    let channel : is_channel rows q ≡ true = sym c.is_channel.ensures ∙ c.if-is_channel.true in
    c.in_mask.ensures
    ∙ ap (λ (n : ℕ). among n roles) c.natural_field.ensures
    ∙ sym (one-of-roles rows q roles ∙ simp channel)
    ∙ (rw (c.in-Some.is, to_z-of_z w32 c.args.z c.ranges.z) at (c.named.ensures (λ i. any_passes (λ role. has_role role rows i) roles)))

pub returns-else-is_channel : goal.returns-else-is_channel
returns-else-is_channel c =
    let rows = c.args.rows.now in
    let q = c.in-Some.q in
    let roles = numbers_in c.args.roles in
    let none : is_channel rows q ≡ false = sym c.is_channel.ensures ∙ c.if-is_channel.false in
    c.if-is_channel.false
    ∙ sym (one-of-roles rows q roles ∙ simp none)
    ∙ (rw (c.in-Some.is, to_z-of_z w32 c.args.z c.ranges.z) at (c.named.ensures (λ i. any_passes (λ role. has_role role rows i) roles)))
