-- A sheet begins with the header of its channels just if the row numbers stand there, each after the other.
use mathlib.Core.Path.{◌≡◌, refl, sym, ap, ap₂, ◌∙◌, subst}
use mathlib.Core.Logic.{⊎_elim, inl, inr}
use mathlib.Core.Bool.{Bool, true, false}
use mathlib.Core.List.{List, [], ◌∷◌, ◌++◌, append-nil, append_assoc, append_cancel_left, flatten}
use Prim.Native.Nat.{ℕ, zero, suc, ◌+◌, ◌≤◌, ◌<◌}
use native.Mathlib.Nat.{eq-or-lt_of_le}
use native.Mathlib.Omega.{arith}
use native.Mathlib.Numerals.{add-one}
use lib.IntN.{ℤ}
use lib.ListN.{length, get_or, drop, length-append, drop_of_length-le}
use lib.Seq.{drop-cons, drop-append_seam}
use Rattle.meaning.specs.Texts.{line_feed, comma}
use Rattle.meaning.specs.Basics.{if_else, all_below}
use Rattle.meaning.specs.Lines.{lines, same}
use Rattle.meaning.specs.Numerals.{decimal}
use Rattle.meaning.specs.Declarations.{declarations, has_role, channels}
use Rattle.meaning.specs.Sheet.{joined, sheet_header}
use Rattle.meaning.specs.TableBytes.{line_at}
use Rattle.meaning.proofs.LineLaws.{text-whole, whole-line, concat-lines}
use Rattle.meaning.proofs.NoFault.{same-is, same_refl}
use Rattle.meaning.proofs.SheetLaws.{joined-plain}
use Rattle.std.specs.Prelude.{Some, None}
use mathlib.Core.Option.{none, some}
use Rattle.base_numbers.proofs.Options.{pair-is}
use Rattle.read_sheet.specs.Header.{header_entry, Stops, EndsAt, header_as, header_read}

-- Sheets that begin with a header -------------------------------------------------------------------------------------------------

header-lines : (cs bs : List ℕ) → lines (sheet_header cs ++ bs) ≡ sheet_header cs ∷ lines bs
unfolding sheet_header
header-lines cs bs = (whole-line (sheet_header cs) (joined cs) (text-whole (joined cs) (joined-plain cs))).1 bs

-- the first line is the header just if the bytes begin with it
begins : (cs sheet : List ℕ) → same (line_at (lines sheet) 1) (sheet_header cs) ≡ true → (rest : List ℕ) × (sheet ≡ sheet_header cs ++ rest)
unfolding flatten
begins cs sheet e = go (lines sheet) (concat-lines sheet) (same-is (line_at (lines sheet) 1) (sheet_header cs) e)
  where
    go : (ls : List (List ℕ)) → flatten ls ≡ sheet → line_at ls 1 ≡ sheet_header cs → (rest : List ℕ) × (sheet ≡ sheet_header cs ++ rest)
    go [] c h = ([], sym c ∙ h ∙ sym (append-nil (sheet_header cs)))
    go (l ∷ ls) c h = (flatten ls, sym c ∙ ap (λ (k : List ℕ). k ++ flatten ls) h)

begins-same : (cs sheet rest : List ℕ) → sheet ≡ sheet_header cs ++ rest → same (line_at (lines sheet) 1) (sheet_header cs) ≡ true
begins-same cs sheet rest e = ap (λ (ls : List (List ℕ)). same (line_at ls 1) (sheet_header cs)) (ap lines e ∙ header-lines cs rest) ∙ same_refl (sheet_header cs)

module _ (rows : List ℤ) (sheet : List ℕ) where
  abbrev cs : List ℕ
  cs = channels rows 1

  abbrev right : Bool
  right = same (line_at (lines sheet) 1) (sheet_header cs)

  pub header_is : (rest : List ℕ) → sheet ≡ sheet_header cs ++ rest → some (length cs, length (sheet_header cs)) ≡ header_read rows sheet
  unfolding header_read
  header_is rest e = ap (λ (t : Bool). header_as t cs) (sym (begins-same cs sheet rest e))

  pub header-is-not : ((rest : List ℕ) → sheet ≡ sheet_header cs ++ rest → ⊥) → none ≡ header_read rows sheet
  unfolding header_read
  header-is-not n = go right refl
    where
      go : (t : Bool) → right ≡ t → none ≡ header_as t cs
      go true e = absurd (n (begins cs sheet e).0 (begins cs sheet e).1)
      go false e = refl

  -- what the answer says of the lines
  pub wrong-header : header_read rows sheet ≡ none → right ≡ false
  unfolding header_read
  wrong-header e = go right e
    where
      go : (t : Bool) → header_as t cs ≡ none → t ≡ false
      go true h = absurd (let c : ◌≡◌ {A = ℕ} 0 1 = cc in omega arith)
      go false h = refl

  pub right-header : (k n : ℕ) → header_read rows sheet ≡ some (k, n) → (k ≡ length cs) × (lines sheet ≡ sheet_header cs ∷ lines (drop n sheet))
  unfolding header_read
  right-header k n e = go right refl e
    where
      there : (rest : List ℕ) → sheet ≡ sheet_header cs ++ rest → n ≡ length (sheet_header cs) → lines sheet ≡ sheet_header cs ∷ lines (drop n sheet)
      there rest h q =
          let behind : rest ≡ drop n sheet = sym (ap₂ drop q h ∙ drop-append_seam (sheet_header cs) rest) in
          ap lines h ∙ header-lines cs rest ∙ ap (λ (l : List ℕ). sheet_header cs ∷ lines l) behind

      go : (t : Bool) → right ≡ t → header_as t cs ≡ some (k, n) → (k ≡ length cs) × (lines sheet ≡ sheet_header cs ∷ lines (drop n sheet))
      go true i h = let parts = pair-is k (length cs) n (length (sheet_header cs)) (sym h) in (parts.0, there (begins cs sheet i).0 (begins cs sheet i).1 parts.1)
      go false i h = absurd (let c : ◌≡◌ {A = ℕ} 0 1 = cc in omega arith)

-- Headers grow --------------------------------------------------------------------------------------------------------------------

joined-last : (cs : List ℕ) (r : ℕ) → joined (cs ++ (r ∷ [])) ≡ joined cs ++ header_entry (length cs) r
unfolding joined
joined-last [] r = refl
joined-last (c ∷ []) r = refl
joined-last (c ∷ d ∷ cs) r = ap {B = List ℕ} (λ l. decimal c ++ (comma ∷ l)) (joined-last (d ∷ cs) r) ∙ sym (append_assoc (decimal c) (comma ∷ joined (d ∷ cs)) (comma ∷ decimal r))

module _ (p : ℕ → Bool) where
  pub below_more : (r : ℕ) → p r ≡ true → all_below p (r + 1) ≡ all_below p r ++ (r ∷ [])
  unfolding all_below
  below_more r e = rw (add-one r) (ap (λ (t : Bool). all_below p r ++ if_else t (r ∷ []) []) e)

  pub below-same : (r : ℕ) → p r ≡ false → all_below p (r + 1) ≡ all_below p r
  unfolding all_below
  below-same r e = rw (add-one r) (ap (λ (t : Bool). all_below p r ++ if_else t (r ∷ []) []) e ∙ append-nil (all_below p r))

  -- no more numbers than there are below r
  pub below-at-most : (r : ℕ) → length (all_below p r) ≤ r
  unfolding all_below
  below-at-most zero = omega arith
  below-at-most (suc r) = rw (length-append (all_below p r)) (go (p r) (below-at-most r))
    where
      go : (t : Bool) → length (all_below p r) ≤ r → length (all_below p r) + length (if_else t (r ∷ []) []) ≤ suc r
      go true h = omega arith
      go false h = omega arith

  -- the row numbers below d go on from those below r, after a comma or a line feed
  record Onward (r d : ℕ) : Type 0 where
    some-row : 0 < length (all_below p d)
    added : List ℕ
    goes_on : joined (all_below p d) ≡ joined (all_below p r) ++ added
    stop : ℕ
    stops : Stops stop
    beyond : List ℕ
    starts : added ++ (line_feed ∷ []) ≡ stop ∷ beyond

  one_more : (r d : ℕ) → Onward r d → p d ≡ true → Onward r (d + 1)
  one_more r d o e = go o.added o.goes_on o.starts
    where
      comma-first : (k : ℕ) → 0 < k → header_entry k d ≡ comma ∷ decimal d
      comma-first zero h = absurd (omega arith)
      comma-first (suc k) h = refl

      more : 0 < length (all_below p (d + 1))
      more = let k = ap length (below_more d e) ∙ length-append (all_below p d) (d ∷ []) in omega arith

      longer : (v : List ℕ) → joined (all_below p d) ≡ joined (all_below p r) ++ v → joined (all_below p (d + 1)) ≡ joined (all_below p r) ++ (v ++ (comma ∷ decimal d))
      longer v g =
          ap joined (below_more d e)
          ∙ joined-last (all_below p d) d
          ∙ ap₂ (λ (l m : List ℕ). l ++ m) g (comma-first (length (all_below p d)) o.some-row)
          ∙ append_assoc (joined (all_below p r)) v (comma ∷ decimal d)

      go : (v : List ℕ) → joined (all_below p d) ≡ joined (all_below p r) ++ v → v ++ (line_feed ∷ []) ≡ o.stop ∷ o.beyond → Onward r (d + 1)
      go [] g s =
          record {
            some-row = more;
            added = comma ∷ decimal d;
            goes_on = longer [] g;
            stop = comma;
            stops = inl refl;
            beyond = decimal d ++ (line_feed ∷ []);
            starts = refl;
          }
      go (x ∷ v) g s =
          record {
            some-row = more;
            added = (x ∷ v) ++ (comma ∷ decimal d);
            goes_on = longer (x ∷ v) g;
            stop = x;
            stops = subst Stops (sym (ap (λ (l : List ℕ). get_or l 0 0) s)) o.stops;
            beyond = (v ++ (comma ∷ decimal d)) ++ (line_feed ∷ []);
            starts = refl;
          }

  unchanged : (r d : ℕ) → Onward r d → p d ≡ false → Onward r (d + 1)
  unchanged r d o e =
      record {
        some-row = let k = ap length (below-same d e) in let s = o.some-row in omega arith;
        added = o.added;
        goes_on = ap joined (below-same d e) ∙ o.goes_on;
        stop = o.stop;
        stops = o.stops;
        beyond = o.beyond;
        starts = o.starts;
      }

  start : (r : ℕ) → 0 < length (all_below p r) → Onward r r
  start r s = record { some-row = s; added = []; goes_on = sym (append-nil (joined (all_below p r))); stop = line_feed; stops = inr refl; beyond = []; starts = refl }

  onward : (r d : ℕ) → r ≤ d → 0 < length (all_below p r) → Onward r d
  onward r zero h s = let z : r ≡ 0 = omega arith in subst (Onward r) z (start r s)
  onward r (suc d) h s = ⊎_elim (λ e. subst (Onward r) e (start r s)) (λ l. subst (Onward r) (add-one d) (step (onward r d (omega arith) s) (p d) refl)) (eq-or-lt_of_le h)
    where
      step : Onward r d → (t : Bool) → p d ≡ t → Onward r (d + 1)
      step o true e = one_more r d o e
      step o false e = unchanged r d o e

-- The loop ----------------------------------------------------------------------------------------------------------------------

module _ (rows : List ℤ) (sheet : List ℕ) where
  abbrev role : ℕ → Bool
  role = has_role 1 rows

  -- the row numbers of the channels below r stand in front of place `at`
  pub record Matched (at count r : ℕ) : Type 0 where
    pub within : r ≤ declarations rows
    pub so-many : count ≡ length (all_below role r)
    pub place : at ≡ length (joined (all_below role r))
    pub bytes : sheet ≡ joined (all_below role r) ++ drop at sheet

  pub nothing-matched : Matched 0 0 0
  unfolding all_below joined
  nothing-matched = record { within = omega arith; so-many = refl; place = refl; bytes = refl }

  module _ (at count r : ℕ) (h : Matched at count r) where
    -- a row that is no such channel is passed over
    pub other_row : r < declarations rows → role r ≡ false → Matched at count (r + 1)
    other_row l e =
        record {
          within = omega arith;
          so-many = h.so-many ∙ ap length (sym (below-same role r e));
          place = h.place ∙ ap (λ (c : List ℕ). length (joined c)) (sym (below-same role r e));
          bytes = h.bytes ∙ ap (λ (c : List ℕ). joined c ++ drop at sheet) (sym (below-same role r e));
        }

    pub count-at-most : count ≤ r
    count-at-most = omega (arith, h.so-many, below-at-most role r)

    longer : role r ≡ true → joined (all_below role (r + 1)) ≡ joined (all_below role r) ++ header_entry count r
    longer e = ap joined (below_more role r e) ∙ joined-last (all_below role r) r ∙ ap (λ (n : ℕ). joined (all_below role r) ++ header_entry n r) (sym h.so-many)

    pub channel-found : r < declarations rows → role r ≡ true → (next : ℕ) → EndsAt sheet at (header_entry count r) (Some next) → Matched next (count + 1) (r + 1)
    channel-found l e next k =
        record {
          within = omega arith;
          so-many = ap (λ (n : ℕ). n + 1) h.so-many ∙ sym (ap length (below_more role r e) ∙ length-append (all_below role r) (r ∷ []));
          place = k.0 ∙ ap (λ (n : ℕ). n + length (header_entry count r)) h.place ∙ sym (ap length (longer e) ∙ length-append (joined (all_below role r)) (header_entry count r));
          bytes =
              h.bytes
              ∙ ap (λ (l : List ℕ). joined (all_below role r) ++ l) k.1
              ∙ sym (append_assoc (joined (all_below role r)) (header_entry count r) (drop next sheet))
              ∙ ap (λ (l : List ℕ). l ++ drop next sheet) (sym (longer e));
        }

    -- where a channel's number is missing, the line is not the header
    pub channel-missing : r < declarations rows → role r ≡ true → EndsAt sheet at (header_entry count r) None → none ≡ header_read rows sheet
    unfolding sheet_header channels
    channel-missing l e k = header-is-not rows sheet (λ rest i. k o.stop (o.beyond ++ rest) o.stops (append_cancel_left (joined (all_below role r)) (drop at sheet) _ (sym h.bytes ∙ i ∙ whole rest)))
      where
        some_there : 0 < length (all_below role (r + 1))
        some_there = let q = ap length (below_more role r e) ∙ length-append (all_below role r) (r ∷ []) in omega arith

        o : Onward role (r + 1) (declarations rows)
        o = onward role (r + 1) (declarations rows) (omega arith) some_there

        whole : (rest : List ℕ) → sheet_header (channels rows 1) ++ rest ≡ joined (all_below role r) ++ (header_entry count r ++ (o.stop ∷ (o.beyond ++ rest)))
        whole rest =
            ap (λ (l : List ℕ). (l ++ (line_feed ∷ [])) ++ rest) o.goes_on
            ∙ ap (λ (l : List ℕ). l ++ rest) (append_assoc (joined (all_below role (r + 1))) o.added (line_feed ∷ []) ∙ ap (λ (l : List ℕ). joined (all_below role (r + 1)) ++ l) o.starts)
            ∙ append_assoc (joined (all_below role (r + 1))) (o.stop ∷ o.beyond) rest
            ∙ ap (λ (l : List ℕ). l ++ (o.stop ∷ (o.beyond ++ rest))) (longer e)
            ∙ append_assoc (joined (all_below role r)) (header_entry count r) (o.stop ∷ (o.beyond ++ rest))

    -- After the last row
    module _ (l : declarations rows ≤ r) where
      last : r ≡ declarations rows
      last = let w = h.within in omega arith

      all : all_below role r ≡ channels rows 1
      unfolding channels
      all = ap (all_below role) last

      begun : sheet ≡ joined (channels rows 1) ++ drop at sheet
      begun = h.bytes ∙ ap (λ (c : List ℕ). joined c ++ drop at sheet) all

      -- what is left begins with a line feed just if the sheet begins with the header
      feed-left : (rest : List ℕ) → sheet ≡ sheet_header (channels rows 1) ++ rest → drop at sheet ≡ line_feed ∷ rest
      unfolding sheet_header
      feed-left rest e =
          append_cancel_left (joined (channels rows 1)) (drop at sheet) (line_feed ∷ rest) (sym begun ∙ e ∙ append_assoc (joined (channels rows 1)) (line_feed ∷ []) rest)

      pub line-unended : length sheet ≤ at → none ≡ header_read rows sheet
      line-unended m = header-is-not rows sheet (λ rest e. let q : ◌≡◌ {A = ℕ} 0 (suc (length rest)) = ap length (sym (drop_of_length-le sheet m) ∙ feed-left rest e) in omega arith)

      module _ (m : at < length sheet) where
        pub line-goes-on : (get_or sheet at 0 ≡ line_feed → ⊥) → none ≡ header_read rows sheet
        line-goes-on n = header-is-not rows sheet (λ rest e. n (ap (λ (l : List ℕ). get_or l 0 0) (sym (drop-cons sheet at 0 m) ∙ feed-left rest e)))

        pub line-ended : get_or sheet at 0 ≡ line_feed → some (count, at + 1) ≡ header_read rows sheet
        unfolding sheet_header
        line-ended e =
            ap₂ (λ (k n : ℕ). some (k, n)) (h.so-many ∙ ap length all)
            (ap (λ (n : ℕ). n + 1) (h.place ∙ ap (λ (c : List ℕ). length (joined c)) all) ∙ sym (length-append (joined (channels rows 1)) (line_feed ∷ [])))
            ∙ header_is rows sheet (drop (suc at) sheet)
            (begun
            ∙ ap (λ (l : List ℕ). joined (channels rows 1) ++ l) (drop-cons sheet at 0 m ∙ ap (λ (b : ℕ). b ∷ drop (suc at) sheet) e)
            ∙ sym (append_assoc (joined (channels rows 1)) (line_feed ∷ []) (drop (suc at) sheet)))
