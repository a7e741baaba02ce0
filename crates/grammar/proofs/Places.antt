-- Lines are read exactly if they are a document, as one, and the reader fails at the first line that nothing after it could mend.
use mathlib.Core.Path.{◌≡◌, refl, sym, ap, ap₂, subst, ◌∙◌}
use mathlib.Core.Bool.{Bool, true, false, false≢true}
use mathlib.Core.Logic.{◌≢◌}
use mathlib.Core.List.{List, [], ◌∷◌, ◌++◌, append-nil, append_assoc}
use mathlib.Core.Option.{Option, none, some, none-ne-some, some-injective}
use Prim.Native.Nat.{ℕ, suc, ◌+◌}
use native.Mathlib.Omega.{arith}
use lib.ListN.{length, length-append}
use Rattle.meaning.specs.Basics.{if_else}
use Rattle.grammar.specs.Outline.{Lined, Trees, Levels, accept_line, accept_all, levels_ended, outset, whole_text, grown}
use Rattle.grammar.specs.OutlineClaims.{AtMostSkip, no_line, one-skip}
use Rattle.grammar.specs.Places.{Spelt, done, next, Document, take_line, read_all, ReadExactly, ReadUnique, Mendable, PlaceExact, Fault, inside, missing, or_rest, place_from, fault_line, FaultExact, Lines}
use Rattle.grammar.proofs.LinesComplete.{lines-complete}
use Rattle.grammar.proofs.LinesSound.{lines-sound}
use Rattle.grammar.proofs.LinesLive.{lines-live}

module _ {B : Type 0} (Is : B → Lined → Type 0) (line_of : B → Option Lined) (given : Lines Is line_of) where
  abbrev Read : Option Levels → List B → Option Levels
  Read o bs = read_all Is line_of o bs

  abbrev Writes : List B → List Lined → Type 0
  Writes bs ls = Spelt Is line_of bs ls

  read_none : (bs : List B) → Read none bs ≡ none
  unfolding read_all take_line accept_line
  read_none [] = refl
  read_none (b ∷ bs) = ap (λ (o : Option Levels). Read o bs) (lost (line_of b)) ∙ read_none bs
    where
      lost : (o : Option Lined) → take_line Is line_of none o ≡ none
      lost none = refl
      lost (some y) = refl

  read-append : (o : Option Levels) (bs cs : List B) → Read o (bs ++ cs) ≡ Read (Read o bs) cs
  unfolding read_all
  read-append o [] cs = refl
  read-append o (b ∷ bs) cs = read-append (take_line Is line_of o (line_of b)) bs cs

  -- lines of the grammar are read as the reader of levels takes them
  read-spelt : {bs : List B} {ls : List Lined} → Writes bs ls → (o : Option Levels) → Read o bs ≡ accept_all o ls
  unfolding read_all take_line accept_all
  read-spelt done o = refl
  read-spelt (next {b} {y} {bs} p s) o =
      ap (λ (q : Option Lined). Read (take_line Is line_of o q) bs) ((given.exact b y).0 p) ∙ read-spelt s (accept_line o y)

  -- lines that have not failed are of the grammar
  spelt : (bs : List B) (o : Option Levels) → Read o bs ≢ none → (ls : List Lined) × Writes bs ls
  unfolding read_all take_line
  spelt [] o h = ([], done)
  spelt (b ∷ bs) o h = go (line_of b) refl h (λ q. spelt bs q)
    where
      go : (q : Option Lined) → line_of b ≡ q → Read (take_line Is line_of o q) bs ≢ none → ((q : Option Levels) → Read q bs ≢ none → (ls : List Lined) × Writes bs ls)
          → (ls : List Lined) × Writes (b ∷ bs) ls
      go none g h rest = absurd (h (read_none bs))
      go (some y) g h rest = let (ls, s) = rest (accept_line o y) h in (y ∷ ls, next ((given.exact b y).1 g) s)

  spelt-append : {bs cs : List B} {ls ms : List Lined} → Writes bs ls → Writes cs ms → Writes (bs ++ cs) (ls ++ ms)
  spelt-append done t = t
  spelt-append (next p s) t = next p (spelt-append s t)

  spelt-same : {bs : List B} {ls ms : List Lined} → Writes bs ls → Writes bs ms → ls ≡ ms
  spelt-same done done = refl
  spelt-same (next {b} {y} p s) (next {y = z} q t) =
      ap₂ (λ (x : Lined) (l : List Lined). x ∷ l) (some-injective y z (sym ((given.exact b y).0 p) ∙ (given.exact b z).0 q)) (spelt-same s t)

  spelt-skip : {ms : List Lined} → AtMostSkip ms → (cs : List B) × Writes cs ms
  spelt-skip no_line = ([], done)
  spelt-skip (one-skip {l}) = let (b, p) = given.skips l in (b ∷ [], next p done)

  not-ended : (o : Option Levels) → levels_ended o ≡ true → o ≢ none
  unfolding levels_ended
  not-ended none h e = false≢true h
  not-ended (some k) h e = false≢true (ap levels_ended (sym e) ∙ h)

  pub read-exactly : ReadExactly Is line_of
  unfolding whole_text
  read-exactly bs = (
    λ h. let (ls, s) = spelt bs outset (not-ended (Read outset bs) h) in
        let (ps, p) = lines-sound ls (ap levels_ended (sym (read-spelt s outset)) ∙ h) in
        (ps, (ls, s, p)),
    λ w. let (ps, c) = w in
        let (ls, s, p) = c in
        ap levels_ended (read-spelt s outset) ∙ (lines-complete ls ps p).0,
  )

  pub read-unique : ReadUnique Is line_of
  read-unique bs ps qs p q =
      let (ls, s, a) = p in
      let (ms, t, b) = q in
      (lines-complete ls ps a).1 ∙ ap (λ (l : List Lined). grown l 0) (spelt-same s t) ∙ sym (lines-complete ms qs b).1

  dead : (bs : List B) → Read outset bs ≡ none → ¬ Mendable Is line_of bs
  unfolding levels_ended
  dead bs h m =
      let (cs, w) = m in
      let k : Read outset (bs ++ cs) ≡ none = read-append outset bs cs ∙ ap (λ (o : Option Levels). Read o cs) h ∙ read_none cs in
      false≢true (ap levels_ended (sym k) ∙ (read-exactly (bs ++ cs)).1 w)

  alive : (bs : List B) → Read outset bs ≢ none → Mendable Is line_of bs
  alive bs n =
      let (ls, s) = spelt bs outset n in
      let (ms, t, w) = (lines-live ls).1 (λ e. n (read-spelt s outset ∙ e)) in
      let (cs, u) = spelt-skip t in
      let (ps, p) = w in
      (cs, (ps, (ls ++ ms, spelt-append s u, p)))

  pub place-exact : PlaceExact Is line_of
  place-exact bs = (dead bs, alive bs)

  -- the last of some lines is one more
  read-last : (cs : List B) (b : B) → Read outset (cs ++ (b ∷ [])) ≡ take_line Is line_of (Read outset cs) (line_of b)
  unfolding read_all
  read-last cs b = read-append outset cs (b ∷ [])

  abbrev Placed : List B → Option ℕ → Type 0
  Placed bs none = (ps : Trees) × Document Is line_of bs ps
  Placed bs (some n) = Fault Is line_of bs n

  placed : (cs bs : List B) (o : Option Levels) (n : ℕ) → Read outset cs ≡ o → o ≢ none → suc (length cs) ≡ n → Placed (cs ++ bs) (place_from Is line_of o n bs)
  unfolding place_from or_rest
  placed cs [] o n e h l = subst (λ (ds : List B). Placed ds (if_else (levels_ended o) none (some n))) (sym (append-nil cs)) (go (levels_ended o) refl)
    where
      go : (t : Bool) → levels_ended o ≡ t → Placed cs (if_else t none (some n))
      go true q = (read-exactly cs).0 (ap levels_ended e ∙ q)
      go false q = subst (λ (m : ℕ). Fault Is line_of cs m) l (missing (alive cs (λ z. h (sym e ∙ z))) (λ ps p. false≢true (sym q ∙ ap levels_ended (sym e) ∙ (read-exactly cs).1 (ps, p))))
  placed cs (b ∷ bs) o n e h l = go (take_line Is line_of o (line_of b)) (read-last cs b ∙ ap (λ (q : Option Levels). take_line Is line_of q (line_of b)) e) (λ q m. placed (cs ++ (b ∷ [])) bs q m)
    where
      go : (q : Option Levels) → Read outset (cs ++ (b ∷ [])) ≡ q
          → ((q : Option Levels) (m : ℕ) → Read outset (cs ++ (b ∷ [])) ≡ q → q ≢ none → suc (length (cs ++ (b ∷ []))) ≡ m → Placed ((cs ++ (b ∷ [])) ++ bs) (place_from Is line_of q m bs))
          → Placed (cs ++ (b ∷ bs)) (or_rest Is line_of q n (place_from Is line_of q (suc n) bs))
      go none z rest = subst (λ (m : ℕ). Fault Is line_of (cs ++ (b ∷ bs)) m) l (inside cs b bs (alive cs (λ y. h (sym e ∙ y))) (dead (cs ++ (b ∷ [])) z))
      go (some k) z rest =
          subst (λ (ds : List B). Placed ds (place_from Is line_of (some k) (suc n) bs)) (append_assoc cs (b ∷ []) bs)
          (rest (some k) (suc n) z (λ y. none-ne-some k (sym y)) (let q = length-append cs (b ∷ []) in omega arith))

  -- after lines that have not failed the place is that of the rest
  place-on : (cs rest : List B) (o : Option Levels) (n : ℕ) → Read o cs ≢ none → place_from Is line_of o n (cs ++ rest) ≡ place_from Is line_of (Read o cs) (n + length cs) rest
  unfolding place_from or_rest read_all
  place-on [] rest o n h = let e : n ≡ n + 0 = omega arith in ap (λ (m : ℕ). place_from Is line_of o m rest) e
  place-on (c ∷ cs) rest o n h = go (take_line Is line_of o (line_of c)) h (λ q. place-on cs rest q (suc n))
    where
      go : (q : Option Levels) → Read q cs ≢ none → ((q : Option Levels) → Read q cs ≢ none → place_from Is line_of q (suc n) (cs ++ rest) ≡ place_from Is line_of (Read q cs) (suc n + length cs) rest)
          → or_rest Is line_of q n (place_from Is line_of q (suc n) (cs ++ rest)) ≡ place_from Is line_of (Read q cs) (n + suc (length cs)) rest
      go none h later = absurd (h (read_none cs))
      go (some k) h later = let e : suc n + length cs ≡ n + suc (length cs) = omega arith in later (some k) h ∙ ap (λ (m : ℕ). place_from Is line_of (Read (some k) cs) m rest) e

  failed : (bs : List B) → ¬ Mendable Is line_of bs → Read outset bs ≡ none
  failed bs n = go (Read outset bs) refl
    where
      go : (o : Option Levels) → Read outset bs ≡ o → o ≡ none
      go none e = refl
      go (some k) e = absurd (n (alive bs (λ z. none-ne-some k (sym z ∙ e))))

  not-failed : (bs : List B) → Mendable Is line_of bs → Read outset bs ≢ none
  not-failed bs m e = dead bs e m

  ended : (bs : List B) → ((ps : Trees) × Document Is line_of bs ps) → fault_line Is line_of bs ≡ none
  unfolding fault_line place_from
  ended bs w =
      let e = (read-exactly bs).1 w in
      ap (place_from Is line_of outset 1) (sym (append-nil bs)) ∙ place-on bs [] outset 1 (not-ended (Read outset bs) e) ∙ rw e

  found : {bs : List B} {n : ℕ} → Fault Is line_of bs n → fault_line Is line_of bs ≡ some n
  unfolding fault_line place_from or_rest
  found (inside cs b ds m n) =
      let e : take_line Is line_of (Read outset cs) (line_of b) ≡ none = sym (read-last cs b) ∙ failed (cs ++ (b ∷ [])) n in
      place-on cs (b ∷ ds) outset 1 (not-failed cs m)
      ∙ ap (λ (q : Option Levels). or_rest Is line_of q (1 + length cs) (place_from Is line_of q (suc (1 + length cs)) ds)) e
      ∙ ap some (omega arith)
  found (missing {bs} m n) =
      ap (place_from Is line_of outset 1) (sym (append-nil bs)) ∙ place-on bs [] outset 1 (not-failed bs m) ∙ go (levels_ended (Read outset bs)) refl
    where
      go : (t : Bool) → levels_ended (Read outset bs) ≡ t → if_else t none (some (1 + length bs)) ≡ some (suc (length bs))
      go true e = absurd (let (ps, d) = (read-exactly bs).0 e in n ps d)
      go false e = ap some (omega arith)

  pub fault-exact : FaultExact Is line_of
  unfolding fault_line read_all
  fault-exact bs =
      let w = placed [] bs outset 1 refl (λ y. none-ne-some _ (sym y)) refl in
      ((λ h. subst (λ (o : Option ℕ). Placed bs o) h w, ended bs), λ n. (λ h. subst (λ (o : Option ℕ). Placed bs o) h w, found))
