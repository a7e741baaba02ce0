-- The components of a PAR by their places in its list: place i holds the process of member i, and there are as many as the list is long.
use mathlib.Core.Path.{◌≡◌, sym, subst}
use mathlib.Core.List.{List}
use mathlib.Core.Option.{some}
use Prim.Native.Nat.{ℕ, zero, suc, ◌+◌, ◌<◌}
use native.Mathlib.Omega.{arith}
use lib.IntN.{ℤ}
use Rattle.meaning.specs.declared.Node.TheVariants.{Par, Member}
use Rattle.meaning.specs.Rows.{row_count, natural_at}
use Rattle.meaning.specs.Nodes.{node_at}
use Rattle.meaning.specs.Tree.{Process, Processes, empty, also, content_at}
use Rattle.meaning.specs.Clash.{IsMember, member-first, member-next}
use Rattle.meaning.specs.MemberPairs.{MemberAt, first_member, next-member, ComponentAt, component}
use Rattle.agreement.specs.VerdictClaims.{Passed}
use Rattle.agreement.specs.PairClaims.{ComponentIs}
use Rattle.agreement.proofs.TableReferences.{Fields, fields-are}
use Rattle.agreement.proofs.UsageRows.{Fits}
use Rattle.agreement.proofs.UsageReferences.{first-node, next-node, process-node, passed-fits, first-refers, process-refers, next-refers}
use Rattle.agreement.proofs.UsageClashes.{IsProcess}
use Rattle.agreement.proofs.UsageMembers.{member-one, Chain, end, link, chain-at, member_is}
use Rattle.agreement.proofs.UsageFirst.{member-par, par-one}

-- how many processes there are
abbrev pub size_of : Processes → ℕ
size_of empty = 0
size_of (also p ms) = suc (size_of ms)

-- the process at place i
pub data AtPlace : Processes → ℕ → Process → Type 0 where
  foremost : {x : Process} {ms : Processes} → AtPlace (also x ms) 0 x
  behind : {x y : Process} {ms : Processes} {i : ℕ} → AtPlace ms i x → AtPlace (also y ms) (suc i) x

module _ (rows : List ℤ) where
  -- without its place
  pub as_member : {r i m : ℕ} → MemberAt rows r i m → IsMember rows r m
  as_member (first_member k h) = member-first k h
  as_member (next-member a h) = member-next (as_member a) h

  pub component-par : {r i p : ℕ} → ComponentAt rows r i p → (a : ℕ) × (node_at rows r ≡ Par a) × (r < row_count rows)
  component-par (component a h) = member-par rows (as_member a)

  -- one place, one member, and one component
  member-same : {r i m n : ℕ} → MemberAt rows r i m → MemberAt rows r i n → m ≡ n
  member-same {r} (first_member {m} k h) (first_member {m = n} l g) = par-one rows r n m (first-node rows r n l g).0 (first-node rows r m k h).0
  member-same (next-member {m} {n} a h) (next-member {m = l} {n = k} b g) =
      let e = member-same a b in
      let f = (next-node rows m n (member_is rows (as_member a)).0 h).0 in
      let d = (next-node rows l k (member_is rows (as_member b)).0 g).0 in
      (member-one rows l (subst (λ (z : ℕ). node_at rows z ≡ Member (natural_at rows m 1) n) e f) d).1

  pub component-same : {r i p q : ℕ} → ComponentAt rows r i p → ComponentAt rows r i q → p ≡ q
  component-same {p} {q} (component {m} a h) (component {m = n} b g) =
      let e = member-same a b in
      let f = process-node rows m p (member_is rows (as_member a)).0 h in
      let d = process-node rows n q (member_is rows (as_member b)).0 g in
      (member-one rows n (subst (λ (z : ℕ). node_at rows z ≡ Member p (natural_at rows m 2)) e f) d).0

  module _ (passed : Passed rows) where
    fits : (r : ℕ) → r < row_count rows → Fits rows r (node_at rows r)
    fits = passed-fits rows passed

    -- a component is a process
    pub component-process : {r i p : ℕ} {x : Process} → ComponentAt rows r i p → (content_at rows p).process ≡ some x → IsProcess rows p x
    component-process {p} (component {m} a h) e =
        let w = subst (Fits rows m) (process-node rows m p (member_is rows (as_member a)).0 h) (fits m (member_is rows (as_member a)).1) in
        (w.0.1, w.0.2, e)

    module _ (r a : ℕ) (l : r < row_count rows) (e : node_at rows r ≡ Par a) where
      chain : Chain rows a (content_at rows a).listed
      chain = chain-at rows fits (row_count rows) a (omega arith) (subst (Fits rows r) e (fits r l)).1

      -- the process at a place of the list is that of the member there
      from-chain : {m k i : ℕ} {ms : Processes} {x : Process} → Chain rows m ms → (m < row_count rows → MemberAt rows r k m) → AtPlace ms i x → (p : ℕ) × ComponentAt rows r (k + i) p × ((content_at rows p).process ≡ some x)
      from-chain {k = k} {i = i} {x = x} (end {m = m} _) at x12 = elim x12 [ ]
      from-chain {k} {x} (link {m} {p} {b} h u f w c) at foremost =
          (p, subst (λ (j : ℕ). ComponentAt rows r j p) (omega arith) (component (at h) (process-refers rows passed m p b h f w.0)), w.2)
      from-chain {k} {x} (link {m} {p} {b} h u f w c) at (behind {i} q) =
          let (n, g, d) = from-chain {k = suc k} c (λ v. next-member (at h) (next-refers rows passed m p b h f v)) q in
          (n, subst (λ (j : ℕ). ComponentAt rows r j n) (omega arith) g, d)

      pub at_place : {i : ℕ} {x : Process} → AtPlace (content_at rows a).listed i x → ComponentIs rows r i x
      at_place q =
          let (p, c, d) = from-chain {k = 0} chain (λ v. first_member (subst (Fields rows r) e (fields-are rows r)).0.0 (first-refers rows passed r a l e v)) q in
          (p, subst (λ (j : ℕ). ComponentAt rows r j p) (omega arith) c, d)

      -- the members from the one at place i on
      data Rest (i m : ℕ) : Type 0 where
        members-from : {ms : Processes} → Chain rows m ms → i + size_of ms ≡ size_of (content_at rows a).listed → Rest i m

      next-rest : {i m n : ℕ} → m < row_count rows → node_at rows m ≡ Member (natural_at rows m 1) n → Rest i m → Rest (suc i) n
      next-rest h f (members-from (end v) g) = absurd (v h)
      next-rest {m} h f (members-from (link {ms} v u d w c) g) = members-from (subst (λ (z : ℕ). Chain rows z ms) (member-one rows m d f).1 c) (omega arith)

      rest : {i m : ℕ} → MemberAt rows r i m → Rest i m
      rest (first_member {m} k h) = members-from (subst (λ (z : ℕ). Chain rows z (content_at rows a).listed) (sym (par-one rows r a m e (first-node rows r m k h).0)) chain) (omega arith)
      rest (next-member {m} {n} b h) = next-rest (member_is rows (as_member b)).1 (next-node rows m n (member_is rows (as_member b)).0 h).0 (rest b)

      -- a component's place is below the list's length
      pub below-size : {i p : ℕ} → ComponentAt rows r i p → i < size_of (content_at rows a).listed
      below-size {i} (component {m} b h) = go (member_is rows (as_member b)).1 (rest b)
        where
          go : m < row_count rows → Rest i m → i < size_of (content_at rows a).listed
          go v (members-from (end u) g) = absurd (u v)
          go v (members-from (link u w d f c) g) = omega arith

-- each place below the length holds a process
pub place-there : (ms : Processes) (i : ℕ) → i < size_of ms → (x : Process) × AtPlace ms i x
place-there empty i l = absurd (omega arith)
place-there (also p ms) zero l = (p, foremost)
place-there (also p ms) (suc i) l = let (x, h) = place-there ms i (omega arith) in (x, behind h)
