-- The lines of a text, written one after the other.
use mathlib.Core.Path.{◌≡◌, refl, sym, ap, ap₂, subst, ◌∙◌}
use mathlib.Core.List.{List, [], ◌∷◌, map}
use mathlib.Core.Option.{Option, some}
use Prim.Native.Nat.{ℕ, suc, ◌+◌, ◌-◌, ◌*◌, ◌/◌, ◌≤◌, ◌<◌}
use native.Mathlib.Omega.{arith}
use lib.IntN.{ℤ}
use lib.ListN.{length, get_or, drop, drop_of_length-le, length-drop}
use lib.Seq.{sets, length-sets, length-take-le, drop-cons, get_or-take}
use Rattle.meaning.specs.Basics.{all_some}
use Rattle.grammar.specs.Grammar.{Token}
use Rattle.grammar.specs.Outline.{OutlineLine, Expect}
use Rattle.grammar.specs.Classes.{Class, class_of}
use Rattle.read_tokens.specs.Held.{part, name_of_row, tokens_resolved}
use Rattle.read_levels.specs.Kinds.{kind_number}
use Rattle.read_levels.specs.Listing.{Listing, start_of, sorts_on, values_on, LineListed}
use Rattle.read_levels.proofs.ListingLaws.{kind-split, span-at, starts}
use Rattle.read_resolved.specs.Resolved.{resolved_token, resolved_line, declared_names}
use Rattle.read_resolved.proofs.ResolvedLaws.{line-resolved, line-forms}
use Rattle.read_layout.specs.Standing.{Standing, standing, open_rows, rest_rows}
use Rattle.read_layout.specs.Layout.{head_rows, tail_rows, line_laid, places_after, all_laid}
use Rattle.read_layout.specs.Room.{Room}
use Rattle.read_sizes.specs.Sizes.{beneath_of, after_of, beneaths, afters, rests, text_standings}
use Rattle.read_sizes.proofs.LineSteps.{text-few}
use Rattle.read_expressions.specs.Expressions.{Scratch}
use Rattle.read_parts.specs.PartForms.{line_listed}
use Rattle.read_rows.specs.declared.Spot.{Spot}
use Rattle.read_rows.specs.LinesLaid.{expect_of, Standable, laid_as, laid_by}
use Rattle.read_rows.proofs.StandSteps.{expect-back}
use Rattle.read_processes.specs.Written.{process_laid, first_places, starts_from, text_starts, spot_at, declared_count, Placed}
use Rattle.read_processes.proofs.ResolvedLines.{beneath-kept, laid-resolved, room-resolved}
use Rattle.read_processes.proofs.TextStands.{first-left, held_at, all-stand, text-line, names-few, text-fits, text-written}

kind-told : (e : Expect) (c : Class) (kind : ℕ) → kind ≡ kind_number e c → expect_of (kind / 16) ≡ e
kind-told e c kind k = ap (λ (m : ℕ). expect_of (m / 16)) k ∙ ap expect_of (kind-split e c).0 ∙ expect-back e

-- a line of listed tokens is the one that they spell
all_there : (f : Token → Token) (ts : List Token) → all_some (map (λ t. some (f t)) ts) ≡ some (map f ts)
unfolding all_some
all_there f [] = refl
all_there f (t ∷ ts) = rw (all_there f ts) refl

line-listed : (names : List (List ℕ)) (x : OutlineLine) (j : ℕ) (ends sorts : List ℕ) (values : List ℤ) → LineListed name_of_row (resolved_token names) x j ends sorts values
    → line_listed (tokens_resolved (sorts_on ends sorts j) (values_on ends values j)) ≡ some (resolved_line names x)
line-listed names x j ends sorts values t = rw (t.values-held, all_there (resolved_token names) t.tokens) (line-resolved names t.tokens x t.spelt)

line-length : (names : List (List ℕ)) (e : Expect) (x : OutlineLine) (p b t r : ℕ) (rows : List ℤ) → length (line_laid names e x p b t r rows) ≡ length rows
line-length names e x p b t r rows =
    length-sets (sets rows (4 * p) (head_rows names e x p b t r)) (4 * (suc p + b + t)) (tail_rows names e x (suc p + b + t)) ∙ length-sets rows (4 * p) (head_rows names e x p b t r)

-- the numbers left at a place
left-first : (xs : List ℕ) (j a : ℕ) (others : List ℕ) → drop j xs ≡ a ∷ others → (get_or xs j 0 ≡ a) × (drop (suc j) xs ≡ others)
left-first xs j a others d =
    let n : suc (length others) ≡ length xs - j = sym (ap length d) ∙ length-drop j xs in
    let e = drop-cons xs j 0 (omega (arith, n)) in
    (cc, cc)

-- where the tokens of the next line begin
pub starts-next : (ends : List ℕ) (j : ℕ) → start_of ends (j + 1) ≡ get_or ends j 0
starts-next ends j = let i : j + 1 ≡ suc j = omega arith in ap (start_of ends) i ∙ starts ends j

-- the lines from one on are still to be written
pub record Writing (text : List ℕ) (rows₀ : List ℤ) (line : ℕ) (rows : List ℤ) : Type 0 where
  pub places : List ℕ
  pub starts-left : drop line (text_starts text) ≡ starts_from (declared_names text) (drop line (text_standings text)) places
  pub room : Room (declared_names text) 1024 (drop line (text_standings text)) places
  pub laid : all_laid (declared_names text) (drop line (text_standings text)) places rows ≡ process_laid text rows₀

-- what one line needs
pub record LineHeld (g : Listing) (line : ℕ) : Type 0 where
  pub few : line < 1024
  pub begins : start_of g.ends line ≤ get_or g.ends line 0
  pub within : get_or g.ends line 0 ≤ length g.sorts
  pub even : length g.sorts ≡ length g.values
  pub parts-even : length (sorts_on g.ends g.sorts line) ≡ length (values_on g.ends g.values line)
  pub part-few : length (sorts_on g.ends g.sorts line) ≤ length g.sorts
  pub short : length g.sorts ≤ 32768

-- its tokens fit in what is lent for an expression's
pub line-scratch : (g : Listing) (line from : ℕ) (marks stack : List ℕ) → LineHeld g line → from ≡ start_of g.ends line → length g.sorts ≤ length marks → length g.sorts ≤ length stack
    → Scratch (part g.sorts from (get_or g.ends line 0)) (part g.values from (get_or g.ends line 0)) marks stack
line-scratch g line from marks stack h f m t =
    let d = h.part-few in
    subst (λ (a : ℕ). Scratch (part g.sorts a (get_or g.ends line 0)) (part g.values a (get_or g.ends line 0)) marks stack) (sym f)
    (h.parts-even, omega (arith, d, h.short), omega (arith, d, m), omega (arith, d, t))

module _ (text : List ℕ) (count : ℕ) (g : Listing) (starts beneath after rest : List ℕ) (h : Placed text count g starts beneath after rest) where
  all-counted : count ≡ length (text_standings text)
  all-counted = h.resolved.lines.counted ∙ sym (all-stand text h.resolved.of-grammar)

  pub line-held : (line : ℕ) → line < count → LineHeld g line
  line-held line k =
      let ls = h.resolved.lines in
      let (begins, within) = span-at ls line k in
      let from = start_of g.ends line in
      let to = get_or g.ends line 0 in
      let ds = length-drop from g.sorts in
      let dv = length-drop from g.values in
      let a = length-take-le (to - from) (drop from g.sorts) (omega (arith, ds, begins, within)) in
      let b = length-take-le (to - from) (drop from g.values) (omega (arith, dv, begins, within, ls.even)) in
      record {
        few = omega (arith, k, all-counted, (text-few text h.resolved.of-grammar h.few).0);
        begins = begins;
        within = within;
        even = ls.even;
        parts-even = a ∙ sym b;
        part-few = omega (arith, a, within);
        short = ls.short;
      }

  -- a line's tokens, from a place on
  abbrev pub tokens_on : ℕ → ℕ → List (Option Token)
  tokens_on line from = tokens_resolved (part g.sorts from (get_or g.ends line 0)) (part g.values from (get_or g.ends line 0))

  module _ (rows₀ : List ℤ) where
    pub write-none : Writing text rows₀ 0 rows₀
    write-none =
        record {
          places = first_places (declared_count text);
          starts-left = refl;
          room = text-fits text h.resolved.of-grammar h.few;
          laid = text-written text h.resolved.of-grammar h.few rows₀;
        }

    pub write-all : (line : ℕ) (rows : List ℤ) → Writing text rows₀ line rows → count ≤ line → rows ≡ process_laid text rows₀
    unfolding all_laid
    write-all line rows w k =
        let d : drop line (text_standings text) ≡ [] = drop_of_length-le (text_standings text) {i = line} (omega (arith, k, all-counted)) in
        sym (ap (λ (ys : List Standing). all_laid (declared_names text) ys w.places rows) d) ∙ w.laid

    -- one line, its tokens from a place on, and where its form goes
    abbrev laid_on : ℕ → ℕ → Spot → List ℤ → List ℤ
    laid_on line from s rows = laid_by (get_or g.kinds line 0) (tokens_on line from) s rows

    pub record WriteStep (line from : ℕ) (s : Spot) (rows : List ℤ) : Type 0 where
      pub standable : Standable (get_or g.kinds line 0) (tokens_on line from) s rows
      pub long : length (laid_on line from s rows) ≡ length rows
      pub later : Writing text rows₀ (line + 1) (laid_on line from s rows)

    step-at : (line : ℕ) (rows : List ℤ) → Writing text rows₀ line rows → line < count → 4096 ≤ length rows → WriteStep line (start_of g.ends line) (spot_at starts beneath after rest line) rows
    unfolding Room all_laid starts_from beneaths afters rests laid_by
    step-at line rows w k wide =
        let names = declared_names text in
        let all = text_standings text in
        let ls = h.resolved.lines in
        let of-grammar = h.resolved.of-grammar in
        let many = names-few text of-grammar h.few in
        let zs = drop (suc line) all in
        let (e, l, x, d) = first-left all line (omega (arith, k, all-counted)) in
        let ((others, u), _, kind) = text-line text of-grammar line e l x zs d count g.kinds k ls.kinds-held in
        let t = ls.line line l x others u in
        let os = tokens_resolved (sorts_on g.ends g.sorts line) (values_on g.ends g.values line) in
        let s = spot_at starts beneath after rest line in
        let y = resolved_line names x in
        let at = w.places in
        let listed : line_listed os ≡ some y = line-listed names x line g.ends g.sorts g.values t in
        let (r, room) = subst (λ (ys : List Standing). Room names 1024 ys at) d w.room in
        let laid = subst (λ (ys : List Standing). all_laid names ys at rows ≡ process_laid text rows₀) d w.laid in
        let (p, starts-left) = left-first (text_starts text) line (get_or at l 0) (starts_from names zs (places_after names e l x (open_rows zs (suc l)) at)) (w.starts-left ∙ ap (λ (ys : List Standing). starts_from names ys at) d) in
        let p0 : get_or starts line 0 ≡ get_or at l 0 = sym (get_or-take count starts line 0 k) ∙ ap (λ (v : List ℕ). get_or v line 0) h.starts-held ∙ p in
        let b0 : get_or beneath line 0 ≡ open_rows zs (suc l) = held_at beneaths beneath_of (λ y ys. refl) all zs (standing e l x) line count beneath h.beneath-held k d in
        let t0 : get_or after line 0 ≡ open_rows zs l = held_at afters after_of (λ y ys. refl) all zs (standing e l x) line count after h.after-held k d in
        let r0 : get_or rest line 0 ≡ rest_rows (standing e l x ∷ zs) = held_at rests (λ y ys. rest_rows (y ∷ ys)) (λ y ys. refl) all zs (standing e l x) line count rest h.rest-held k d in
        let written : laid_by (get_or g.kinds line 0) os s rows ≡ line_laid names e x (get_or at l 0) (open_rows zs (suc l)) (open_rows zs l) (rest_rows (standing e l x ∷ zs)) rows =
        ap₂ (λ (f : Expect) (o : Option OutlineLine). laid_as f o s rows) (kind-told e (class_of x) (get_or g.kinds line 0) kind) listed
        ∙ laid-resolved names many x e (get_or starts line 0) (get_or beneath line 0) (get_or after line 0) (get_or rest line 0) rows
        ∙ rw (p0, b0, t0, r0) refl in
        let i : line + 1 ≡ suc line = omega arith in
        record {
          standable = record {
            line = y;
            expected = e;
            under = r.beneath;
            limit = 1024;
            is-line = listed;
            is-kind = kind ∙ ap (kind_number e) (sym (line-forms names many x).same_class);
            may-stand = beneath-kept names many x e ∙ r.stands;
            room = room-resolved names many x 1024 e (get_or starts line 0) (get_or beneath line 0) (get_or after line 0) (get_or rest line 0) (rw (p0, b0, t0, r0) r);
            few = omega arith;
            long = omega (arith, wide);
          };
          long = ap length written ∙ line-length names e x (get_or at l 0) (open_rows zs (suc l)) (open_rows zs l) (rest_rows (standing e l x ∷ zs)) rows;
          later = subst (λ (a : ℕ). Writing text rows₀ a (laid_by (get_or g.kinds line 0) os s rows)) (sym i) (record {
            places = places_after names e l x (open_rows zs (suc l)) at;
            starts-left = starts-left;
            room = room;
            laid = ap (λ (v : List ℤ). all_laid names zs (places_after names e l x (open_rows zs (suc l)) at) v) written ∙ laid;
          });
        }

    pub write_step : (line from : ℕ) (s : Spot) (rows : List ℤ) → from ≡ start_of g.ends line → s ≡ spot_at starts beneath after rest line
        → Writing text rows₀ line rows → line < count → 4096 ≤ length rows → WriteStep line from s rows
    write_step line from s rows f q w k wide =
        subst (λ (a : ℕ). WriteStep line a s rows) (sym f) (subst (λ (b : Spot). WriteStep line (start_of g.ends line) b rows) (sym q) (step-at line rows w k wide))
