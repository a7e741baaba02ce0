-- The bytes of a line after its indentation as tokens, for any table of tokens: which bytes are a token, which neighbouring bytes hang together, and which tokens must be parted by a space.
use Rattle.std.specs.Prelude.{◌≡◌, Bool, true, false, List, [], ◌∷◌, ◌++◌, ℕ, eqb}
use Rattle.std.proofs.Math.Option.{Option, none, some}
use Rattle.meaning.specs.Basics.{if_else}

abbrev pub space : ℕ
space = 32

-- a space, or bytes that hang together
pub data Item : Type 0 where
  gap : Item
  chunk : List ℕ → Item

-- what stands directly before: the line's beginning, a space, or a token
pub data Edge (T : Type 0) : Type 0 where
  start blank : Edge T
  token : T → Edge T

module _ {T : Type 0} (token_of : List ℕ → Option T) (hang : ℕ → ℕ → Bool) (clash : T → T → Bool) where
  -- whether a token may not stand directly after what stands before it
  abbrev pub may_not_follow : Edge T → T → Bool
  may_not_follow start t = false
  may_not_follow blank t = false
  may_not_follow (token p) t = clash p t

  -- the last of some bytes does not hang together with the first of others
  abbrev pub Apart : List ℕ → List ℕ → Type 0
  Apart [] bs = Unit {0}
  Apart (b ∷ []) [] = Unit {0}
  Apart (b ∷ []) (c ∷ cs) = hang b c ≡ false
  Apart (b ∷ c ∷ cs) bs = Apart (c ∷ cs) bs

  -- bytes that spell tokens: spaces stand neither first nor last
  pub data Rendered : Edge T → List T → List ℕ → Type 0 where
    finish : {p : T} → Rendered (token p) [] []
    after-token : {p : T} {ts : List T} {bs : List ℕ} → Rendered blank ts bs → Rendered (token p) ts (space ∷ bs)
    after-blank : {ts : List T} {bs : List ℕ} → Rendered blank ts bs → Rendered blank ts (space ∷ bs)
    spell : {e : Edge T} {t : T} {ts : List T} {s bs : List ℕ} → token_of s ≡ some t → may_not_follow e t ≡ false → Apart s bs → Rendered (token t) ts bs → Rendered e (t ∷ ts) (s ++ bs)

  -- a byte before some items
  unfoldable pub glue : ℕ → List Item → List Item
  glue b [] = chunk (b ∷ []) ∷ []
  glue b (gap ∷ is) = chunk (b ∷ []) ∷ gap ∷ is
  glue b (chunk [] ∷ is) = chunk (b ∷ []) ∷ is
  glue b (chunk (c ∷ cs) ∷ is) = if_else (hang b c) (chunk (b ∷ c ∷ cs) ∷ is) (chunk (b ∷ []) ∷ chunk (c ∷ cs) ∷ is)

  unfoldable pub items : List ℕ → List Item
  items [] = []
  items (b ∷ bs) = let rest = items bs in if_else (eqb b space) (gap ∷ rest) (glue b rest)

  abbrev pub front : T → Option (List T) → Option (List T)
  front t none = none
  front t (some ts) = some (t ∷ ts)

  -- a token, if it may stand there, before those after it
  abbrev pub put_token : Edge T → Option T → (T → Option (List T)) → Option (List T)
  put_token e none k = none
  put_token e (some t) k = if_else (may_not_follow e t) none (front t (k t))

  unfoldable pub read : Edge T → List Item → Option (List T)
  read start [] = none
  read blank [] = none
  read (token p) [] = some []
  read start (gap ∷ is) = none
  read blank (gap ∷ is) = read blank is
  read (token p) (gap ∷ is) = read blank is
  read start (chunk s ∷ is) = put_token start (token_of s) (λ t. read (token t) is)
  read blank (chunk s ∷ is) = put_token blank (token_of s) (λ t. read (token t) is)
  read (token p) (chunk s ∷ is) = put_token (token p) (token_of s) (λ t. read (token t) is)

  -- the tokens that some bytes spell
  unfoldable pub tokens : List ℕ → Option (List T)
  tokens bs = read start (items bs)

  -- what a table of tokens must have: a token's bytes are no spaces and hang together, and nothing hangs together with a space
  abbrev pub Hangs : List ℕ → Type 0
  Hangs [] = ⊥
  Hangs (b ∷ []) = eqb b space ≡ false
  Hangs (b ∷ c ∷ cs) = (eqb b space ≡ false) × (hang b c ≡ true) × Hangs (c ∷ cs)

  pub record Table : Type 0 where
    pub hangs : (s : List ℕ) (t : T) → token_of s ≡ some t → Hangs s
    pub parts : (b : ℕ) → hang b space ≡ false

  -- bytes are read as tokens exactly if they spell them
  abbrev pub ScanExact : Type 0
  ScanExact = Table → (bs : List ℕ) (ts : List T) → (Rendered start ts bs → tokens bs ≡ some ts) × (tokens bs ≡ some ts → Rendered start ts bs)
