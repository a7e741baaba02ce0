-- In an accepted table a host channel has one element, and its number among the channels of its role tells which.
use mathlib.Core.Path.{◌≡◌, refl, sym, ap, subst, ◌∙◌}
use mathlib.Core.Logic.{◌⊎◌, inl, inr}
use mathlib.Core.Bool.{Bool, true, false, ◌&&◌, ◌||◌, false≢true}
use mathlib.Core.Option.{Option, none, some}
use mathlib.Core.List.{List}
use Prim.Native.Nat.{ℕ, zero, suc, ◌+◌, ◌<◌, ◌≤◌}
use native.Mathlib.Omega.{arith}
use native.Mathlib.Decide.{dec_lt}
use lib.IntN.{ℤ, pos}
use lib.Dec.{T, ltb, eqb}
use borrow.Author.Tests.{ltb-true, eqb-true, eq-eqb}
use Rattle.meaning.specs.declared.Node.{Node}
use Rattle.meaning.specs.declared.Node.TheVariants.{Literal, Element, Monadic, Dyadic, Stop, Skip, Assignment, Input, Output, Seq, Par, If, While, Alt, Block, Member, Choice, OptionRow, Guard, Other}
use Rattle.meaning.specs.Rows.{row_count, natural_of, field_at, natural_at, kind_at}
use Rattle.meaning.specs.Basics.{if_else, lowest, Lowest}
use Rattle.meaning.specs.Declarations.{declarations, Channel, no_channel, sum_below, is_channel, has_role, elements_at, host_channels_at, capacity_at, channel_at, source_at, sink_at}
use Rattle.meaning.specs.Kinds.{shape, elements, capacity, from_to, shape_of, shape_in, shapes}
use Rattle.meaning.specs.Nodes.{node_at}
use Rattle.meaning.specs.Faults.{MayHold}
use Rattle.meaning.proofs.FaultLaws.{holds-a}
use Rattle.meaning.specs.Tree.{Action, Process, node, Processes, Content, content_of, content_at, action_of}
use Rattle.meaning.proofs.AnswerLaws.{RightRows}
use Rattle.meaning.proofs.LowestLaws.{lowest-is}
use Rattle.agreement.proofs.Fit.{HostAt, GuardAt, GuardsAt, HostsAt}
use Rattle.meaning.specs.ContentClaims.{higher_content}
use Rattle.meaning.proofs.Decides.{both_true}
use Rattle.agreement.proofs.TableTree.{Known, every-row}
use Rattle.agreement.proofs.TableStarts.{root_below}

of_T : (t : Bool) → T t → t ≡ true
of_T true h = refl
of_T false h = absurd h

-- a sum over the rows up to a higher one has the lower row's number in it
pub sum_past : (f : ℕ → ℕ) (i a : ℕ) → i < a → sum_below f i + f i ≤ sum_below f a
unfolding sum_below
sum_past f i zero l = absurd (omega arith)
sum_past f i (suc a) l = go (dec_lt i a) (sum_past f i a)
  where
    go : Dec (i < a) → (i < a → sum_below f i + f i ≤ sum_below f a) → sum_below f i + f i ≤ sum_below f a + f a
    go (yes h) g = let k = g h in omega arith
    go (no h) g = let e : i ≡ a = omega arith in subst (λ (x : ℕ). sum_below f i + f i ≤ sum_below f x + f x) e (omega arith)

abbrev or_zero : Option ℕ → ℕ
or_zero none = 0
or_zero (some i) = i

module _ (role : ℕ) (rows : List ℤ) where
  -- row r declares the channel of this role with this number
  abbrev numbered : ℕ → ℕ → Bool
  numbered p r = has_role role rows r && eqb (sum_below (host_channels_at role rows) r) p

  -- the element of the channel of this role with this number
  pub element_of : ℕ → ℕ
  element_of p = sum_below (elements_at rows) (or_zero (lowest (numbered p) (declarations rows)))

  one-port : (r : ℕ) → has_role role rows r ≡ true → host_channels_at role rows r ≡ 1
  unfolding host_channels_at
  one-port r h = rw h

  -- of two channels of a role the numbers differ
  pub same_row : (i a : ℕ) → has_role role rows i ≡ true → has_role role rows a ≡ true → sum_below (host_channels_at role rows) i ≡ sum_below (host_channels_at role rows) a → i ≡ a
  same_row i a h k e = go (dec_lt i a) (dec_lt a i)
    where
      go : Dec (i < a) → Dec (a < i) → i ≡ a
      go (yes l) d = absurd (omega (arith, sum_past (host_channels_at role rows) i a l, one-port i h))
      go (no l) (yes m) = absurd (omega (arith, sum_past (host_channels_at role rows) a i m, one-port a k))
      go (no l) (no m) = omega arith

  pub declared-at : (a : ℕ) → has_role role rows a ≡ true → (a < declarations rows) × (kind_at rows a ≡ 2) × (natural_at rows a 2 ≡ role)
  declared-at a h =
      let (c, e) = both_true (is_channel rows a) (eqb (natural_at rows a 2) role) h in
      let (d, k) = both_true (ltb a (declarations rows)) (eqb (kind_at rows a) 2) c in
      (ltb-true a (declarations rows) d, eqb-true (kind_at rows a) 2 k, eqb-true (natural_at rows a 2) role e)

  found : (a p : ℕ) → sum_below (host_channels_at role rows) a ≡ p → has_role role rows a ≡ true → or_zero (lowest (numbered p) (declarations rows)) ≡ a
  found a p e h = go (lowest (numbered p) (declarations rows)) (lowest-is (numbered p) (declarations rows))
    where
      go : (o : Option ℕ) → Lowest (λ i. T (numbered p i)) (declarations rows) o → or_zero o ≡ a
      go none f = absurd (f a (declared-at a h).0 (rw (h, eq-eqb (sum_below (host_channels_at role rows) a) p e) tt))
      go (some i) f =
          let (s, t) = both_true (has_role role rows i) (eqb (sum_below (host_channels_at role rows) i) p) (of_T (numbered p i) f.1) in
          same_row i a s h (eqb-true (sum_below (host_channels_at role rows) i) p t ∙ sym e)

  module _ (A : RightRows rows) (ne : role ≡ 0 → ⊥) where
    holds-elements : (a : ℕ) → a < row_count rows → kind_at rows a ≡ 2 → MayHold rows a elements (field_at rows a 1)
    unfolding shape_of shape_in shapes
    holds-elements a l k = holds-a rows a (shape 2 elements (from_to 0 2) capacity) (A.1 a l) (ap shape_of k)

    -- a host channel has one element
    one-element : (a : ℕ) → has_role role rows a ≡ true → elements_at rows a ≡ 1
    unfolding elements_at MayHold
    one-element a h = rw (both_true (is_channel rows a) (eqb (natural_at rows a 2) role) h).0 (go (holds-elements a (let l = root_below rows A in let d = (declared-at a h).0 in omega arith) (declared-at a h).1).1)
      where
        go : (field_at rows a 2 ≡ pos 0) ⊎ (field_at rows a 1 ≡ pos 1) → natural_at rows a 1 ≡ 1
        go (inl z) = absurd (ne (sym (declared-at a h).2 ∙ ap natural_of z))
        go (inr z) = ap natural_of z

    -- the element of a host channel that an input or output names
    pub host-at : (a : ℕ) → HostAt element_of (channel_at role rows a)
    unfolding channel_at element_of
    host-at a = go (has_role 0 rows a || has_role role rows a)
      where
        c : Channel
        c = record { first = sum_below (elements_at rows) a; size = elements_at rows a; host = has_role role rows a; number = sum_below (host_channels_at role rows) a; capacity = capacity_at rows a }

        go : (t : Bool) → HostAt element_of (if_else t c no_channel)
        go true h = (ap (sum_below (elements_at rows)) (sym (found a (sum_below (host_channels_at role rows) a) refl h)), one-element a h)
        go false h = absurd (false≢true h)

-- Every row's host channels
abbrev HostsO : (ℕ → ℕ) → (ℕ → ℕ) → Option Process → Type 0
HostsO source sink none = Unit {0}
HostsO source sink (some p) = HostsAt source sink (action_of p)

pub source_of : List ℤ → ℕ → ℕ
source_of = element_of 1

pub sink_of : List ℤ → ℕ → ℕ
sink_of = element_of 2

module _ (rows : List ℤ) (A : RightRows rows) where
  abbrev source : ℕ → ℕ
  source = source_of rows

  abbrev sink : ℕ → ℕ
  sink = sink_of rows

  at_source : (a : ℕ) → HostAt source (source_at rows a)
  unfolding source_of source_at
  at_source = host-at 1 rows A (λ e. omega arith)

  at-sink : (a : ℕ) → HostAt sink (sink_at rows a)
  unfolding sink_of sink_at
  at-sink = host-at 2 rows A (λ e. omega arith)

  abbrev HostsOk : ℕ → Content → Type 0
  HostsOk r p = GuardAt source p.guard.input × GuardsAt source p.options × HostsO source sink p.process

  of-known : (r b : ℕ) (p : Content) → Known rows HostsOk r b p → HostsOk b p
  of-known r b p (inl e) = rw e (tt, tt, tt)
  of-known r b p (inr h) = h.3

  part-ok : (r : ℕ) (at : ℕ → Content) → ((b : ℕ) → HostsOk b (at b)) → (k : Node) → HostsOk r (content_of rows r at k)
  part-ok r at h (Literal x) = (tt, tt, tt)
  part-ok r at h (Element a b) = (tt, tt, tt)
  part-ok r at h (Monadic a b) = (tt, tt, tt)
  part-ok r at h (Dyadic a b c) = (tt, tt, tt)
  part-ok r at h Stop = (tt, tt, tt)
  part-ok r at h Skip = (tt, tt, tt)
  part-ok r at h (Assignment a b c) = (tt, tt, tt)
  part-ok r at h (Input a b c) = (at_source a, tt, at_source a)
  part-ok r at h (Output a b c) = (tt, tt, at-sink a)
  part-ok r at h (Seq a) = (tt, tt, tt)
  part-ok r at h (Par a) = (tt, tt, tt)
  part-ok r at h (If a) = (tt, tt, tt)
  part-ok r at h (While a b) = (tt, tt, tt)
  part-ok r at h (Alt a) = (tt, tt, (h a).1)
  part-ok r at h (Block a b) = (tt, tt, tt)
  part-ok r at h (Member a b) = (tt, tt, tt)
  part-ok r at h (Choice a b c) = (tt, tt, tt)
  part-ok r at h (OptionRow a b c) = (tt, ((h c).0, (h b).1), tt)
  part-ok r at h (Guard a b) = ((h b).0, tt, tt)
  part-ok r at h Other = (tt, tt, tt)

  every-part : (r : ℕ) → HostsOk r (content_at rows r)
  every-part = every-row rows HostsOk (λ r. (tt, tt, tt)) (λ r l e h. part-ok r (higher_content rows r) (λ b. of-known r b (higher_content rows r b) (h b)) (node_at rows r))

  -- the host channels of the process at a row
  pub hosts-at : (r : ℕ) (k : Action) (ms : Processes) → (content_at rows r).process ≡ some (node k r ms) → HostsAt (source_of rows) (sink_of rows) k
  hosts-at r k ms e = subst (HostsO source sink) e (every-part r).2
