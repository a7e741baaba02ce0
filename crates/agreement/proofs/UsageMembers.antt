-- The pairs of components that the tests compare are those of two different members of the PAR.
use mathlib.Core.Path.{◌≡◌, refl, sym, ap, ◌∙◌, subst}
use mathlib.Core.Logic.{◌⊎◌, inl, inr, ⊎_elim, ◌≢◌}
use mathlib.Core.List.Memᴰ
use mathlib.Core.List.{List, [], ◌∷◌, Memᴰ}
use mathlib.Core.Option.{Option, some, some-injective}
use Prim.Native.Nat.{ℕ, zero, suc, ◌+◌, ◌≤◌, ◌<◌}
use native.Mathlib.Decide.{dec_lt}
use native.Mathlib.Omega.{arith}
use lib.IntN.{ℤ}
use Rattle.meaning.specs.declared.Node.{Node}
use Rattle.meaning.specs.declared.Node.TheVariants.{Literal, Element, Monadic, Dyadic, Stop, Skip, Assignment, Input, Output, Seq, Par, If, While, Alt, Block, Member, Choice, OptionRow, Guard, Other}
use Rattle.meaning.specs.Rows.{row_count, natural_at, kind_at}
use Rattle.meaning.specs.Kinds.{processes}
use Rattle.meaning.specs.Nodes.{node_at}
use Rattle.meaning.specs.Tree.{Process, Processes, empty, also, Content, and_process, content_of, content_at}
use Rattle.meaning.specs.Usage.{Pair, pairs_with, pairs}
use Rattle.meaning.specs.Clash.{IsMember, member-first, member-next, Components, components}
use Rattle.meaning.proofs.PartLaws.{part-unfolds}
use Rattle.agreement.specs.VerdictClaims.{Passed}
use Rattle.agreement.proofs.UsageRows.{node-of-kind, Fits}
use Rattle.agreement.proofs.UsageReferences.{first-node, next-node, process-refers, next-refers}
use Rattle.agreement.proofs.UsageParts.{part-by-kind, part-is}
use Rattle.agreement.proofs.UsageClashes.{IsProcess}

-- the process and the next of a member
member_of : Node → ℕ × ℕ
member_of (Literal x) = (0, 0)
member_of (Element a b) = (0, 0)
member_of (Monadic a b) = (0, 0)
member_of (Dyadic a b c) = (0, 0)
member_of Stop = (0, 0)
member_of Skip = (0, 0)
member_of (Assignment a b c) = (0, 0)
member_of (Input a b c) = (0, 0)
member_of (Output a b c) = (0, 0)
member_of (Seq a) = (0, 0)
member_of (Par a) = (0, 0)
member_of (If a) = (0, 0)
member_of (While a b) = (0, 0)
member_of (Alt a) = (0, 0)
member_of (Block a b) = (0, 0)
member_of (Member a b) = (a, b)
member_of (Choice a b c) = (0, 0)
member_of (OptionRow a b c) = (0, 0)
member_of (Guard a b) = (0, 0)
member_of Other = (0, 0)

module _ (rows : List ℤ) where
  -- one row is one member
  pub member-one : (m : ℕ) {a b c d : ℕ} → node_at rows m ≡ Member a b → node_at rows m ≡ Member c d → (a ≡ c) × (b ≡ d)
  unfolding member_of
  member-one m e f = let h = ap member_of (sym e ∙ f) in (ap (λ (x : ℕ × ℕ). x.0) h, ap (λ (x : ℕ × ℕ). x.1) h)

  -- the members from row m on, each with its process
  pub data Chain : ℕ → Processes → Type 0 where
    end : {m : ℕ} → ¬ (m < row_count rows) → Chain m empty
    link : {m p b : ℕ} {x : Process} {ms : Processes} → m < row_count rows → m < b → node_at rows m ≡ Member p b → IsProcess rows p x → Chain b ms → Chain m (also x ms)

  module _ (fits : (r : ℕ) → r < row_count rows → Fits rows r (node_at rows r)) where
    -- at a row of the kind of a process there is one
    pub process-at : (p : ℕ) → p < row_count rows → Memᴰ (kind_at rows p) processes → (x : Process) × IsProcess rows p x
    process-at p l m =
        let h = part-by-kind rows (λ y. (x : Process) × (y.process ≡ some x)) p l (fits p l) processes m
        ((_, refl), ((_, refl), ((_, refl), ((_, refl), ((_, refl), ((_, refl), ((_, refl), ((_, refl), ((_, refl), ((_, refl), ((_, refl), tt))))))))))) in
        (h.0, (l, m, h.1))

    pub chain-at : (k m : ℕ) → row_count rows ≤ m + k → (m < row_count rows → Memᴰ (kind_at rows m) (40 ∷ [])) → Chain m (content_at rows m).listed
    chain-at zero m d h = subst (λ (x : Content). Chain m x.listed) (sym ((part-unfolds rows m).1 (omega arith))) (end (omega arith))
    chain-at (suc k) m d h = go (dec_lt m (row_count rows)) (λ b g i. chain-at k b g i)
      where
        go : Dec (m < row_count rows) → ((b : ℕ) → row_count rows ≤ b + k → (b < row_count rows → Memᴰ (kind_at rows b) (40 ∷ [])) → Chain b (content_at rows b).listed) → Chain m (content_at rows m).listed
        go (no l) f = subst (λ (x : Content). Chain m x.listed) (sym ((part-unfolds rows m).1 (omega arith))) (end l)
        go (yes l) f =
            let p = natural_at rows m 1 in
            let b = natural_at rows m 2 in
            let e : node_at rows m ≡ Member p b = node-of-kind rows m 40 (Memᴰ.eq_of_singleton (h l)) in
            let w : Fits rows m (Member p b) = subst (Fits rows m) e (fits m l) in
            let x = process-at p w.0.1 w.0.2 in
            let is : (content_at rows m).listed ≡ also x.0 (content_at rows b).listed =
            ap (λ (y : Content). y.listed) (part-is rows m l (fits m l)) ∙ ap (λ (y : Node). (content_of rows m (content_at rows) y).listed) e ∙ ap (λ (o : Option Process). and_process o (content_at rows b).listed) x.1.2 in
            subst (Chain m) (sym is) (link l w.1.0 e x.1 (f b (let u = w.1.0 in omega arith) w.1.1))

  -- two members of the PAR at row r with these processes
  pub data Apart (r : ℕ) (x y : Process) : Type 0 where
    apart : {p q : ℕ} → Components rows r p q → IsProcess rows p x → IsProcess rows q y → Apart r x y

  -- the members of a PAR are members, and rows of the table
  pub member_is : {r m : ℕ} → IsMember rows r m → (kind_at rows m ≡ 40) × (m < row_count rows)
  member_is {r} {m} (member-first k h) = let f = first-node rows r m k h in (f.1, f.3)
  member_is {r} (member-next {m} {n} i h) = let f = next-node rows m n (member_is i).0 h in (f.1, f.3)

  -- a pair is of two members
  module _ (passed : Passed rows) (r : ℕ) where
    -- a member after row m with process y
    abbrev After : ℕ → Process → Type 0
    After m y = (n : ℕ) × ((q : ℕ) × ((c : ℕ) × (m ≤ n) × IsMember rows r n × (node_at rows n ≡ Member q c) × IsProcess rows q y))

    next-member : (m p b : ℕ) → node_at rows m ≡ Member p b → IsMember rows r m → b < row_count rows → IsMember rows r b
    next-member m p b e h i = member-next h (next-refers rows passed m p b (member_is h).1 e i)

    with-to : (x : Process) {m : ℕ} {ms : Processes} → Chain m ms → (m < row_count rows → IsMember rows r m) → (d : Pair) → Memᴰ d (pairs_with x ms) → (x ≡ d.one) × After m d.other
    with-to x (end l) f d h = absurd (Memᴰ.not-nil h)
    with-to x (link {m} {p} {b} {x = y} {ms} l u e w c) f d h =
        ⊎_elim
        (λ (g : d ≡ record { one = x; other = y }). (sym (ap (λ (z : Pair). z.one) g), (m, (p, (b, omega arith, f l, e, subst (IsProcess rows p) (sym (ap (λ (z : Pair). z.other) g)) w)))))
        (λ g. let k = with-to x c (next-member m p b e (f l)) d g in (k.0, (k.1.0, (k.1.1.0, (k.1.1.1.0, (let v = k.1.1.1.1 in omega arith), k.1.1.1.2, k.1.1.1.3, k.1.1.1.4)))))
        (Memᴰ.cases_cons h)

    pub pairs-to : {m : ℕ} {ms : Processes} → Chain m ms → (m < row_count rows → IsMember rows r m) → (d : Pair) → Memᴰ d (pairs ms) → Apart r d.one d.other
    pairs-to (end l) f d h = absurd (Memᴰ.not-nil h)
    pairs-to (link {m} {p} {b} {x} {ms} l u e w c) f d h =
        ⊎_elim
        (λ g.
        let k = with-to x c (next-member m p b e (f l)) d g in
        let n = k.1.1.1 in
        apart (components (f l) n.2 (let v = n.1 in λ z. omega arith) (process-refers rows passed m p b l e w.0) (process-refers rows passed k.1.0 k.1.1.0 n.0 (member_is n.2).1 n.3 n.4.0)) (subst (IsProcess rows p) k.0 w) n.4)
        (λ g. pairs-to c (next-member m p b e (f l)) d g)
        (Memᴰ.append_cases (pairs_with x ms) h)

  -- row x is a member from row m on
  pub data From (x : ℕ) : ℕ → Type 0 where
    now : From x x
    then : {m a b : ℕ} → node_at rows m ≡ Member a b → (m < b) × (b < row_count rows) → From x b → From x m

  from_next : {x m a b : ℕ} → From x m → node_at rows x ≡ Member a b → (x < b) × (b < row_count rows) → From b m
  from_next now e f = then e f now
  from_next (then g h w) e f = then g h (from_next w e f)

  -- the members of a PAR are those from its first on
  pub member-from : (r m : ℕ) → ((c : ℕ) → node_at rows r ≡ Par c → c ≡ m) → {x : ℕ} → IsMember rows r x → From x m
  member-from r m f (member-first {m = c} k h) = subst (From c) (f c (first-node rows r c k h).0) now
  member-from r m f (member-next {m = x} {n} h g) = let e = next-node rows x n (member_is h).0 g in from_next (member-from r m f h) e.0 (e.2, e.3)

  -- a member with its process
  abbrev pub Runs : ℕ → Process → Type 0
  Runs n x = (q : ℕ) × ((c : ℕ) × (n < row_count rows) × (node_at rows n ≡ Member q c) × IsProcess rows q x)

  process-one : {p : ℕ} {x y : Process} → IsProcess rows p x → IsProcess rows p y → x ≡ y
  process-one {p} {x} {y} a b = some-injective x y (sym a.2 ∙ b.2)

  runs-one : (n p b : ℕ) (x y : Process) → node_at rows n ≡ Member p b → IsProcess rows p x → Runs n y → y ≡ x
  runs-one n p b x y e w h = process-one h.1.3 (subst (λ (q : ℕ). IsProcess rows q x) (member-one n e h.1.2).0 w)

  with-from : (x y : Process) {n m : ℕ} {ms : Processes} → Chain m ms → From n m → Runs n y → (d : Pair) × Memᴰ d (pairs_with x ms) × (d.one ≡ x) × (d.other ≡ y)
  with-from x y (end l) now h = absurd (l h.1.1)
  with-from x y (end l) (then e f w) h = absurd (let a = f.0 in let b = f.1 in l (omega arith))
  with-from x y (link {m} {p} {b} {x = z} l u e w c) now h =
      (record { one = x; other = z }, Memᴰ.head refl, refl, sym (runs-one m p b z y e w h))
  with-from x y {n} (link {m} l u e w c) (then g f k) h =
      let a = with-from x y c (subst (From n) (sym (member-one m e g).1) k) h in (a.0, Memᴰ.tail a.1, a.2, a.3)

  -- two different members are a pair, in one order or the other
  abbrev pub Paired : Process → Process → Processes → Type 0
  Paired x y ms = (d : Pair) × Memᴰ d (pairs ms) × (((d.one ≡ x) × (d.other ≡ y)) ⊎ ((d.one ≡ y) × (d.other ≡ x)))

  pub pairs-from : (x y : Process) {n k m : ℕ} {ms : Processes} → Chain m ms → From n m → From k m → n ≢ k → Runs n x → Runs k y → Paired x y ms
  pairs-from x y (end l) now g ne a b = absurd (l a.1.1)
  pairs-from x y (end l) (then e f w) g ne a b = absurd (let s = f.0 in let t = f.1 in l (omega arith))
  pairs-from x y (link l u e w c) now now ne a b = absurd (ne refl)
  pairs-from x y {k} (link {m} {p} {b = d} {x = z} {ms} l u e w c) now (then g f v) ne a b =
      let q = with-from x y c (subst (From k) (sym (member-one m e g).1) v) b in
      (q.0, Memᴰ.append_left (pairs ms) (subst (λ (s : Process). Memᴰ q.0 (pairs_with s ms)) (runs-one m p d z x e w a) q.1), inl (q.2, q.3))
  pairs-from x y {n} (link {m} {p} {b = d} {x = z} {ms} l u e w c) (then g f v) now ne a b =
      let q = with-from y x c (subst (From n) (sym (member-one m e g).1) v) a in
      (q.0, Memᴰ.append_left (pairs ms) (subst (λ (s : Process). Memᴰ q.0 (pairs_with s ms)) (runs-one m p d z y e w b) q.1), inr (q.2, q.3))
  pairs-from x y {n} {k} (link {m} {b = d} {x = z} {ms} l u e w c) (then g f v) (then g' f' v') ne a b =
      let q = pairs-from x y c (subst (From n) (sym (member-one m e g).1) v) (subst (From k) (sym (member-one m e g').1) v') ne a b in
      (q.0, Memᴰ.append_right (pairs_with z ms) q.1, q.2)
