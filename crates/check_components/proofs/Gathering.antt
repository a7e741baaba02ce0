-- The sets of PARs and their components, gathered from the last row up: what is stored stays, and the loop over a PAR's links has gathered the components before it.
use mathlib.Core.Path.{◌≡◌, refl, sym, ap, ◌∙◌, subst}
use mathlib.Core.Logic.{◌⊎◌, inl, inr, ⊎_elim}
use mathlib.Core.Bool.{Bool, true, false}
use mathlib.Core.List.Memᴰ
use mathlib.Core.List.{List, ◌++◌, append_assoc, Memᴰ}
use Prim.Native.Nat.{ℕ, suc, ◌+◌, ◌-◌, ◌*◌, ◌<◌, ◌≤◌}
use native.Mathlib.Nat.{eq-or-lt_of_le}
use native.Mathlib.Decide.{dec_lt, ℕ_discrete}
use native.Mathlib.Omega.{arith}
use lib.IntN.{ℤ}
use lib.ListN.{length, take, drop, length-append, length-drop, take-append-drop}
use lib.Seq.{take_at, drop_at, take-append-le, drop-append-le, drop-append-add, drop-drop, length-take-le}
use lib.Dec.{ltb}
use borrow.Author.Tests.{ltb-true, lt-ltb, le-ltb}
use Rattle.meaning.specs.Basics.{if_else, is_some}
use Rattle.meaning.specs.Rows.{row_count, kind_at}
use Rattle.meaning.specs.Tree.{content_at, process_rows}
use Rattle.meaning.specs.Usage.{gather_all}
use Rattle.base_layout.specs.Operands.{operand_at}
use Rattle.base_layout.proofs.Parts.{operand-higher}
use Rattle.base_sets.specs.Sets.{with_all, no_numbers, set_union, sets_at}
use Rattle.base_sets.proofs.Holds.{all-length}
use Rattle.base_sets.proofs.SetLaws.{no_call, two-calls}
use Rattle.base_sets.proofs.Joined.{joined-list}
use Rattle.check_components.specs.Marks.{marks, all_marks}
use Rattle.check_components.specs.Fields.{is_link}
use Rattle.check_components.specs.RowSets.{stored_at, process_sets, HasSets, component_rows, ParsHave, SetsFrom, with_component}
use Rattle.check_components.proofs.Links.{link-below, link-marks, no-link-marks}
use Rattle.check_components.proofs.RowSets.{par-marks}
use Rattle.check_components.proofs.ListedProcesses.{member-there, member-missing, no-link-rows, process-below}

-- Sixteen words stored ------------------------------------------------------------------------------------------------------------

-- the sets of a row in the first of two parts
front-sets : (us vs : List ℕ) (k : ℕ) → 16 * k + 16 ≤ length us → sets_at (us ++ vs) k ≡ sets_at us k
front-sets us vs k h = ap (take 16) (drop-append-le (16 * k) us vs (omega arith)) ∙ take-append-le 16 (drop (16 * k) us) vs (omega (arith, length-drop (16 * k) us))

module _ (ws own : List ℕ) (r : ℕ) (h : 16 * r + 16 ≤ length ws) (l : length own ≡ 16) where
  abbrev front : List ℕ
  front = take (16 * r) ws

  abbrev back : List ℕ
  back = drop (16 * r + 16) ws

  front_length : length front ≡ 16 * r
  front_length = length-take-le (16 * r) ws (omega arith)

  pub stored-length : length (stored_at ws r own) ≡ length ws
  stored-length = omega (arith, length-append front (own ++ back), front_length, length-append own back, l, length-drop (16 * r + 16) ws)

  pub stored_there : sets_at (stored_at ws r own) r ≡ own
  stored_there = ap (take 16) (drop_at front (own ++ back) (16 * r) front_length) ∙ take_at own back 16 l

  pub stored-keeps : (k : ℕ) → (k ≡ r → ⊥) → sets_at (stored_at ws r own) k ≡ sets_at ws k
  stored-keeps k n = go (dec_lt k r)
    where
      before : k < r → sets_at (stored_at ws r own) k ≡ sets_at ws k
      before b =
          let e = front_length in
          front-sets front (own ++ back) k (omega arith) ∙ sym (front-sets front (drop (16 * r) ws) k (omega arith)) ∙ ap (λ (vs : List ℕ). sets_at vs k) (take-append-drop (16 * r) ws)

      after : r < k → sets_at (stored_at ws r own) k ≡ sets_at ws k
      after b =
          let d = 16 * (k - suc r) in
          let e : 16 * k ≡ length (front ++ own) + d = omega (arith, length-append front own, front_length, l) in
          let f : 16 * k ≡ 16 * r + 16 + d = omega arith in
          ap (λ (vs : List ℕ). sets_at vs k) (sym (append_assoc front own back))
          ∙ ap (λ (m : ℕ). take 16 (drop m ((front ++ own) ++ back))) e
          ∙ ap (take 16) (drop-append-add (front ++ own) back d ∙ drop-drop d (16 * r + 16) ws)
          ∙ ap (λ (m : ℕ). take 16 (drop m ws)) (sym f)

      go : Dec (k < r) → sets_at (stored_at ws r own) k ≡ sets_at ws k
      go (yes b) = before b
      go (no b) = after (omega arith)

-- One component -------------------------------------------------------------------------------------------------------------------

module _ (rows : List ℤ) where
  process-sized : (p : ℕ) → length (process_sets rows p) ≡ 16
  process-sized p = all-length no_numbers (all_marks (content_at rows p).process)

  module _ (ws : List ℕ) (sized : length ws ≡ 16 * row_count rows) (p : ℕ) where
    -- those of a row of the table stored: they are there, and all that were there still are
    module _ (h : p < row_count rows) where
      pub row_within : 16 * p + 16 ≤ length ws
      row_within = omega arith

      kept : (k : ℕ) → HasSets rows ws k → HasSets rows (stored_at ws p (process_sets rows p)) k
      kept k e = go (ℕ_discrete k p)
        where
          go : Dec (k ≡ p) → HasSets rows (stored_at ws p (process_sets rows p)) k
          go (yes q) = rw q (stored_there ws (process_sets rows p) p row_within (process-sized p))
          go (no n) = stored-keeps ws (process_sets rows p) p row_within (process-sized p) k n ∙ e

    pub component-length : length (with_component rows ws p) ≡ length ws
    component-length = go (ltb p (row_count rows)) refl
      where
        go : (t : Bool) → ltb p (row_count rows) ≡ t → length (if_else t (stored_at ws p (process_sets rows p)) ws) ≡ length ws
        go true e = stored-length ws (process_sets rows p) p (row_within (ltb-true p (row_count rows) e)) (process-sized p)
        go false e = refl

    pub component-keeps : (k : ℕ) → HasSets rows ws k → HasSets rows (with_component rows ws p) k
    component-keeps k h = go (ltb p (row_count rows)) refl
      where
        go : (t : Bool) → ltb p (row_count rows) ≡ t → HasSets rows (if_else t (stored_at ws p (process_sets rows p)) ws) k
        go true e = kept (ltb-true p (row_count rows) e) k h
        go false e = h

    pub component-there : p < row_count rows → HasSets rows (with_component rows ws p) p
    component-there h = rw (lt-ltb p (row_count rows) h) (stored_there ws (process_sets rows p) p (row_within h) (process-sized p))

    -- as the code does it
    pub component-stored : {x own : List ℕ} → p < row_count rows → own ≡ process_sets rows p → x ≡ stored_at ws p own → x ≡ with_component rows ws p
    component-stored h e q = q ∙ ap (stored_at ws p) e ∙ rw (lt-ltb p (row_count rows) h)

    pub component-past : row_count rows ≤ p → ws ≡ with_component rows ws p
    component-past h = rw (le-ltb p (row_count rows) h)

  pub component-joined : (all own l : List ℕ) {x : List ℕ} → length all ≡ 16 → own ≡ with_all no_numbers l → x ≡ set_union all own → x ≡ with_all all l
  component-joined all own l h e q = q ∙ ap (set_union all) e ∙ joined-list all l h

  -- The components of a PAR ---------------------------------------------------------------------------------------------------------

  -- those before the link at `at` are gathered
  pub record Gathering (r : ℕ) (sets all : List ℕ) (at : ℕ) : Type 0 where
    pub higher : SetsFrom rows sets (suc r)
    pub sized : length all ≡ 16
    pub so_far : with_all no_numbers (gather_all (content_at rows (operand_at rows r 1)).listed marks) ≡ with_all all (gather_all (content_at rows at).listed marks)
    pub some-have : (p : ℕ) → Memᴰ p (component_rows rows r) → HasSets rows sets p ⊎ Memᴰ p (process_rows (content_at rows at).listed)
    pub onward : r < at

  pub gathering-starts : (r : ℕ) {sets : List ℕ} {at : ℕ} → r < row_count rows → SetsFrom rows sets (suc r) → at ≡ operand_at rows r 1 → Gathering r sets no_numbers at
  gathering-starts r {at} h f e =
      record {
        higher = f;
        sized = refl;
        so_far = ap (λ (a : ℕ). with_all no_numbers (gather_all (content_at rows a).listed marks)) (sym e);
        some-have = λ p m. inr (subst (λ (a : ℕ). Memᴰ p (process_rows (content_at rows a).listed)) (sym e) m);
        onward = omega (arith, operand-higher rows r 1 h);
      }

  module _ (r : ℕ) (sets all : List ℕ) (at : ℕ) (g : Gathering r sets all at) where
    module _ (link : is_link rows at ≡ true) (p q : ℕ) (first : p ≡ operand_at rows at 1) (next : q ≡ operand_at rows at 2) where
      at-higher : (j : ℕ) → at < operand_at rows at j
      at-higher j = operand-higher rows at j (link-below rows at link)

      pub gathering-pars : ParsHave rows sets p
      gathering-pars = (g.higher.pars.0, λ k h. g.higher.pars.1 k (omega (arith, g.onward, at-higher 1)))

      pub gathering-goes : {sets' all' : List ℕ} → all' ≡ with_all all (all_marks (content_at rows p).process) → sets' ≡ with_component rows sets p → Gathering r sets' all' q
      gathering-goes {sets'} {all'} e f =
          record {
            higher = record {
              pars = (ap length f ∙ component-length sets g.higher.pars.0 p ∙ g.higher.pars.0, λ k h l i. still k (g.higher.pars.1 k h l i));
              components = λ k c h l i m. still c (g.higher.components k c h l i m);
            };
            sized = ap length e ∙ all-length all (all_marks (content_at rows p).process) ∙ g.sized;
            so_far = g.so_far ∙ sym (two-calls all (all_marks (content_at rows p).process) (gather_all (content_at rows q).listed marks) e refl (link-marks rows at link first next));
            some-have = λ c m. ⊎_elim (λ h. inl (still c h)) (λ i. next-members (is_some (content_at rows p).process) refl c i) (g.some-have c m);
            onward = omega (arith, g.onward, at-higher 2);
          }
        where
          still : (k : ℕ) → HasSets rows sets k → HasSets rows sets' k
          still k h = subst (λ (ws : List ℕ). HasSets rows ws k) (sym f) (component-keeps sets g.higher.pars.0 p k h)

          next-members : (t : Bool) → is_some (content_at rows p).process ≡ t → (c : ℕ) → Memᴰ c (process_rows (content_at rows at).listed) → HasSets rows sets' c ⊎ Memᴰ c (process_rows (content_at rows q).listed)
          next-members true i c m =
              ⊎_elim (λ o. inl (subst (λ (ws : List ℕ). HasSets rows ws c) (sym f) (subst (HasSets rows (with_component rows sets p)) (sym o) (component-there sets g.higher.pars.0 p (process-below rows p i))))) inr
              (Memᴰ.cases_cons (subst (Memᴰ c) (member-there rows at link first next i) m))
          next-members false i c m = inr (subst (Memᴰ c) (member-missing rows at link first next i) m)

    pub gathering-ends : is_link rows at ≡ false → r < row_count rows → kind_at rows r ≡ 31 → {sets' : List ℕ} → sets' ≡ stored_at sets r all → SetsFrom rows sets' r
    gathering-ends e h k q = subst (λ (ws : List ℕ). SetsFrom rows ws r) (sym (q ∙ ap (stored_at sets r) whole)) stored
      where
        whole : all ≡ process_sets rows r
        whole = sym (ap (with_all no_numbers) (par-marks rows r h k) ∙ g.so_far ∙ sym (no_call all (no-link-marks rows at e)))

        still : (c : ℕ) → HasSets rows sets c → HasSets rows (stored_at sets r (process_sets rows r)) c
        still = kept sets g.higher.pars.0 r h

        own : HasSets rows (stored_at sets r (process_sets rows r)) r
        own = stored_there sets (process_sets rows r) r (row_within sets g.higher.pars.0 r h) (process-sized r)

        member : (c : ℕ) → Memᴰ c (component_rows rows r) → HasSets rows (stored_at sets r (process_sets rows r)) c
        member c m = ⊎_elim (still c) (λ i. absurd (Memᴰ.not-nil (subst (Memᴰ c) (no-link-rows rows at e) i))) (g.some-have c m)

        stored : SetsFrom rows (stored_at sets r (process_sets rows r)) r
        stored =
            record {
              pars = (
                stored-length sets (process_sets rows r) r (row_within sets g.higher.pars.0 r h) (process-sized r) ∙ g.higher.pars.0,
                λ j l b i. ⊎_elim (λ o. subst (HasSets rows (stored_at sets r (process_sets rows r))) o own) (λ u. still j (g.higher.pars.1 j u b i)) (eq-or-lt_of_le l),
              );
              components = λ j c l b i m. ⊎_elim (λ o. member c (subst (λ (z : ℕ). Memᴰ c (component_rows rows z)) (sym o) m)) (λ u. still c (g.higher.components j c u b i m)) (eq-or-lt_of_le l);
            }

  -- The PARs of a table -------------------------------------------------------------------------------------------------------------

  pub none_yet : (sets : List ℕ) (r : ℕ) → length sets ≡ 16 * row_count rows → row_count rows ≤ r → SetsFrom rows sets r
  none_yet sets r e h = record { pars = (e, λ k l b i. absurd (omega arith)); components = λ k c l b i m. absurd (omega arith) }

  -- the row before r is next
  module _ (sets : List ℕ) (r : ℕ) (g : SetsFrom rows sets r) where
    pub next-higher : 0 < r → SetsFrom rows sets (suc (r - 1))
    next-higher l = let e : r ≡ suc (r - 1) = omega arith in subst (SetsFrom rows sets) e g

    pub no-par-there : (kind_at rows (r - 1) ≡ 31 → ⊥) → SetsFrom rows sets (r - 1)
    no-par-there n =
        record {
          pars = (g.pars.0, λ k l b i. g.pars.1 k (past k l i) b i);
          components = λ k c l b i m. g.components k c (past k l i) b i m;
        }
      where
        past : (k : ℕ) → r - 1 ≤ k → kind_at rows k ≡ 31 → r ≤ k
        past k l i = ⊎_elim (λ e. absurd (n (ap (kind_at rows) e ∙ i))) (λ u. omega arith) (eq-or-lt_of_le l)
