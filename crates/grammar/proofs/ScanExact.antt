-- Bytes are read as tokens exactly if they spell them, for any table of tokens whose bytes hang together.
use mathlib.Core.Path.{◌≡◌, refl, sym, ap, ◌∙◌}
use mathlib.Core.Bool.{Bool, true, false}
use mathlib.Core.List.{List, [], ◌∷◌, ◌++◌}
use mathlib.Core.Option.{Option, none, some, none-ne-some, some-injective}
use Prim.Native.Nat.{ℕ}
use borrow.Author.Tests.{eqb-true}
use lib.Dec.{eqb}
use Rattle.meaning.specs.Basics.{if_else}
use Rattle.grammar.specs.Scan.{space, Item, gap, chunk, Edge, start, blank, token, may_not_follow, Apart, Rendered, finish, after-token, after-blank, spell, glue, items, front, put_token, read, tokens, Hangs, Table, ScanExact}

-- the bytes of items
abbrev flat : List Item → List ℕ
flat [] = []
flat (gap ∷ is) = space ∷ flat is
flat (chunk s ∷ is) = s ++ flat is

module _ {T : Type 0} (token_of : List ℕ → Option T) (hang : ℕ → ℕ → Bool) (clash : T → T → Bool) where
  abbrev Glue : ℕ → List Item → List Item
  Glue b is = glue token_of hang clash b is

  abbrev Items : List ℕ → List Item
  Items bs = items token_of hang clash bs

  abbrev Read : Edge T → List Item → Option (List T)
  Read e is = read token_of hang clash e is

  abbrev Part : List ℕ → List ℕ → Type 0
  Part s bs = Apart token_of hang clash s bs

  abbrev Spelt : Edge T → List T → List ℕ → Type 0
  Spelt e ts bs = Rendered token_of hang clash e ts bs

  -- a byte before items is the first of a chunk
  glue-first : (b : ℕ) (is : List Item) → (cs : List ℕ) × (js : List Item) × (Glue b is ≡ chunk (b ∷ cs) ∷ js)
  unfolding glue
  glue-first b [] = ([], [], refl)
  glue-first b (gap ∷ is) = ([], gap ∷ is, refl)
  glue-first b (chunk [] ∷ is) = ([], is, refl)
  glue-first b (chunk (c ∷ cs) ∷ is) = go (hang b c)
    where
      go : (t : Bool) → (ds : List ℕ) × (js : List Item) × (if_else t (chunk (b ∷ c ∷ cs) ∷ is) (chunk (b ∷ []) ∷ chunk (c ∷ cs) ∷ is) ≡ chunk (b ∷ ds) ∷ js)
      go true = (c ∷ cs, is, refl)
      go false = ([], chunk (c ∷ cs) ∷ is, refl)

  glue-apart : (b : ℕ) (bs : List ℕ) → Part (b ∷ []) bs → Glue b (Items bs) ≡ chunk (b ∷ []) ∷ Items bs
  unfolding glue items
  glue-apart b [] h = refl
  glue-apart b (c ∷ cs) h = go (eqb c space)
    where
      go : (t : Bool) → Glue b (if_else t (gap ∷ Items cs) (Glue c (Items cs))) ≡ chunk (b ∷ []) ∷ if_else t (gap ∷ Items cs) (Glue c (Items cs))
      go true = refl
      go false = let (ds, js, q) = glue-first c (Items cs) in ap (λ (l : List Item). Glue b l) q ∙ rw h refl ∙ ap (λ (l : List Item). chunk (b ∷ []) ∷ l) (sym q)

  glue-hung : (b c : ℕ) (cs : List ℕ) (is : List Item) → hang b c ≡ true → Glue b (chunk (c ∷ cs) ∷ is) ≡ chunk (b ∷ c ∷ cs) ∷ is
  unfolding glue
  glue-hung b c cs is h = rw h refl

  items-spell : (s bs : List ℕ) → Hangs token_of hang clash s → Part s bs → Items (s ++ bs) ≡ chunk s ∷ Items bs
  unfolding items
  items-spell [] bs h a = absurd h
  items-spell (b ∷ []) bs h a = rw h (glue-apart b bs a)
  items-spell (b ∷ c ∷ cs) bs h a =
      let (f, g, k) = h in
      let q = items-spell (c ∷ cs) bs k a in
      ap (λ (t : Bool). if_else t (gap ∷ Items ((c ∷ cs) ++ bs)) (Glue b (Items ((c ∷ cs) ++ bs)))) f ∙ ap (λ (l : List Item). Glue b l) q ∙ glue-hung b c cs (Items bs) g

  read-chunk : (e : Edge T) (s : List ℕ) (is : List Item) → Read e (chunk s ∷ is) ≡ put_token token_of hang clash e (token_of s) (λ t. Read (token t) is)
  unfolding read
  read-chunk start s is = refl
  read-chunk blank s is = refl
  read-chunk (token p) s is = refl

  module _ (table : Table token_of hang clash) where
    rendered-read : {e : Edge T} {ts : List T} {bs : List ℕ} → Spelt e ts bs → Read e (Items bs) ≡ some ts
    unfolding read items
    rendered-read finish = refl
    rendered-read (after-token r) = rendered-read r
    rendered-read (after-blank r) = rendered-read r
    rendered-read (spell {e} {t} {ts} {s} {bs} h m a r) =
        ap (λ (l : List Item). Read e l) (items-spell s bs (table.hangs s t h) a) ∙ read-chunk e s (Items bs) ∙ rw (h, m, rendered-read r) refl

    -- no chunk is empty, and neighbouring chunks are apart
    abbrev Good : List Item → Type 0
    Good [] = Unit {0}
    Good (gap ∷ is) = Good is
    Good (chunk [] ∷ is) = ⊥
    Good (chunk (b ∷ s) ∷ is) = Part (b ∷ s) (flat is) × Good is

    glue-good : (b : ℕ) (is : List Item) → Good is → Good (Glue b is) × (flat (Glue b is) ≡ b ∷ flat is)
    unfolding glue
    glue-good b [] g = ((tt, tt), refl)
    glue-good b (gap ∷ is) g = ((table.parts b, g), refl)
    glue-good b (chunk [] ∷ is) g = absurd g
    glue-good b (chunk (c ∷ cs) ∷ is) g = go (hang b c) refl
      where
        go : (t : Bool) → hang b c ≡ t → Good (if_else t (chunk (b ∷ c ∷ cs) ∷ is) (chunk (b ∷ []) ∷ chunk (c ∷ cs) ∷ is))
            × (flat (if_else t (chunk (b ∷ c ∷ cs) ∷ is) (chunk (b ∷ []) ∷ chunk (c ∷ cs) ∷ is)) ≡ b ∷ c ∷ (cs ++ flat is))
        go true h = (g, refl)
        go false h = ((h, g), refl)

    items-good : (bs : List ℕ) → Good (Items bs) × (flat (Items bs) ≡ bs)
    unfolding items
    items-good [] = (tt, refl)
    items-good (b ∷ bs) = go (eqb b space) refl (items-good bs)
      where
        go : (t : Bool) → eqb b space ≡ t → Good (Items bs) × (flat (Items bs) ≡ bs)
            → Good (if_else t (gap ∷ Items bs) (Glue b (Items bs))) × (flat (if_else t (gap ∷ Items bs) (Glue b (Items bs))) ≡ b ∷ bs)
        go true h w = (w.0, rw (eqb-true b space h, w.1) refl)
        go false h w = let (g, q) = glue-good b (Items bs) w.0 in (g, q ∙ ap (λ (l : List ℕ). b ∷ l) w.1)

    read-rendered : (is : List Item) (e : Edge T) (ts : List T) → Good is → Read e is ≡ some ts → Spelt e ts (flat is)
    unfolding read
    read-rendered [] start ts g h = absurd (none-ne-some ts h)
    read-rendered [] blank ts g h = absurd (none-ne-some ts h)
    read-rendered [] (token p) ts g h = let f : Spelt (token p) [] [] = finish in rw (some-injective [] ts h) at f
    read-rendered (gap ∷ is) start ts g h = absurd (none-ne-some ts h)
    read-rendered (gap ∷ is) blank ts g h = after-blank (read-rendered is blank ts g h)
    read-rendered (gap ∷ is) (token p) ts g h = after-token (read-rendered is blank ts g h)
    read-rendered (chunk [] ∷ is) e ts g h = absurd g
    read-rendered (chunk (b ∷ s) ∷ is) e ts g h = placed (token_of (b ∷ s)) refl (sym (read-chunk e (b ∷ s) is) ∙ h) (λ t us k. read-rendered is (token t) us g.1 k)
      where
        Rest : Type 0
        Rest = (t : T) (us : List T) → Read (token t) is ≡ some us → Spelt (token t) us (flat is)

        fronted : (t : T) (o : Option (List T)) → Read (token t) is ≡ o → token_of (b ∷ s) ≡ some t → may_not_follow token_of hang clash e t ≡ false → front token_of hang clash t o ≡ some ts → Rest → Spelt e ts ((b ∷ s) ++ flat is)
        fronted t none k q m h rest = absurd (none-ne-some ts h)
        fronted t (some us) k q m h rest =
            let f : Spelt e (t ∷ us) ((b ∷ s) ++ flat is) = spell q m g.0 (rest t us k) in
            rw (some-injective (t ∷ us) ts h) at f

        met : (t : T) (m : Bool) → may_not_follow token_of hang clash e t ≡ m → token_of (b ∷ s) ≡ some t → if_else m none (front token_of hang clash t (Read (token t) is)) ≡ some ts → Rest → Spelt e ts ((b ∷ s) ++ flat is)
        met t true k q h rest = absurd (none-ne-some ts h)
        met t false k q h rest = fronted t (Read (token t) is) refl q k h rest

        placed : (o : Option T) → token_of (b ∷ s) ≡ o → put_token token_of hang clash e o (λ t. Read (token t) is) ≡ some ts → Rest → Spelt e ts ((b ∷ s) ++ flat is)
        placed none q h rest = absurd (none-ne-some ts h)
        placed (some t) q h rest = met t (may_not_follow token_of hang clash e t) refl q h rest

  pub scan-exact : ScanExact token_of hang clash
  unfolding tokens
  scan-exact table bs ts = (
    λ r. rendered-read table r,
    λ h. let (g, q) = items-good table bs in rw q at (read-rendered table (Items bs) start ts g h),
  )
