-- Declarations are read exactly as they are spelt.
use mathlib.Core.Path.{◌≡◌, refl, sym, ap, subst₂, subst₃, ◌∙◌}
use mathlib.Core.List.{List, [], ◌∷◌, ◌++◌}
use mathlib.Core.Logic.{◌⊎◌, inl, inr}
use mathlib.Core.Option.{Option, none, some, none-ne-some, some-injective}
use Prim.Native.Nat.{ℕ}
use lib.IntN.{ℤ, pos}
use Rattle.grammar.specs.Grammar.{Mark, a-skip, a-stop, a-seq, a-par, an-if, an-alt, a-while, becomes, asks, tells, ampersand, an_int, a-chan, a-hostin, a-hostout, colon, unused, Token, name, number, minus, not-word, given, arith, joins, round-open, round-close, square-open, square-close, mark}
use Rattle.grammar.specs.Outline.{Declaration, source, sink, OutlineLine, declare}
use Rattle.grammar.specs.Lines.{Sized, ints, chans, Header, scalar, array, host-in, host-out, Spells, declares, Look, open-look, shut-look, colon-look, other-look, number-look, name-look, mark_look, look_at, size_look, size_read, end_look, name_of, number_look, sized_declaration, named, host_in, host_out, token_mark, before, cut_at, cut_at_mark, of_cut, line_spelt}

-- what a look tells of its token
abbrev Is : Look → Token → Type 0
Is open-look t = t ≡ square-open
Is shut-look t = t ≡ square-close
Is colon-look t = t ≡ mark colon
Is other-look t = Unit {0}
Is (number-look z) t = t ≡ number z
Is (name-look n) t = t ≡ name n

mark-is : (m : Mark) → Is (mark_look m) (mark m)
unfolding mark_look
mark-is a-skip = tt
mark-is a-stop = tt
mark-is a-seq = tt
mark-is a-par = tt
mark-is an-if = tt
mark-is an-alt = tt
mark-is a-while = tt
mark-is becomes = tt
mark-is asks = tt
mark-is tells = tt
mark-is ampersand = tt
mark-is an_int = tt
mark-is a-chan = tt
mark-is a-hostin = tt
mark-is a-hostout = tt
mark-is colon = refl
mark-is (unused k) = tt

look_is : (t : Token) → Is (look_at t) t
unfolding look_at
look_is (name n) = refl
look_is (number z) = refl
look_is minus = tt
look_is not-word = tt
look_is given = tt
look_is (arith k) = tt
look_is (joins l) = tt
look_is round-open = tt
look_is round-close = tt
look_is square-open = refl
look_is square-close = refl
look_is (mark m) = mark-is m

size-from : (a b c : Token) (x y w : Look) (z : ℤ) → Is x a → Is y b → Is w c → size_look x y w ≡ some z → a ∷ b ∷ c ∷ [] ≡ square-open ∷ number z ∷ square-close ∷ []
unfolding size_look
size-from a b c open-look open-look w z p q r h = absurd (none-ne-some z h)
size-from a b c open-look shut-look w z p q r h = absurd (none-ne-some z h)
size-from a b c open-look colon-look w z p q r h = absurd (none-ne-some z h)
size-from a b c open-look (number-look z2) open-look z p q r h = absurd (none-ne-some z h)
size-from a b c open-look (number-look z2) shut-look z p q r h = rw (p, q, r, some-injective z2 z h) refl
size-from a b c open-look (number-look z2) colon-look z p q r h = absurd (none-ne-some z h)
size-from a b c open-look (number-look z2) (number-look z3) z p q r h = absurd (none-ne-some z h)
size-from a b c open-look (number-look z2) (name-look n3) z p q r h = absurd (none-ne-some z h)
size-from a b c open-look (number-look z2) other-look z p q r h = absurd (none-ne-some z h)
size-from a b c open-look (name-look n2) w z p q r h = absurd (none-ne-some z h)
size-from a b c open-look other-look w z p q r h = absurd (none-ne-some z h)
size-from a b c shut-look y w z p q r h = absurd (none-ne-some z h)
size-from a b c colon-look y w z p q r h = absurd (none-ne-some z h)
size-from a b c (number-look z1) y w z p q r h = absurd (none-ne-some z h)
size-from a b c (name-look n1) y w z p q r h = absurd (none-ne-some z h)
size-from a b c other-look y w z p q r h = absurd (none-ne-some z h)

end-from : (a b : Token) (x y : Look) (n : List ℕ) → Is x a → Is y b → end_look x y ≡ some n → a ∷ b ∷ [] ≡ name n ∷ mark colon ∷ []
unfolding end_look
end-from a b open-look y n p q h = absurd (none-ne-some n h)
end-from a b shut-look y n p q h = absurd (none-ne-some n h)
end-from a b colon-look y n p q h = absurd (none-ne-some n h)
end-from a b (number-look z1) y n p q h = absurd (none-ne-some n h)
end-from a b (name-look n1) open-look n p q h = absurd (none-ne-some n h)
end-from a b (name-look n1) shut-look n p q h = absurd (none-ne-some n h)
end-from a b (name-look n1) colon-look n p q h = rw (p, q, some-injective n1 n h) refl
end-from a b (name-look n1) (number-look z2) n p q h = absurd (none-ne-some n h)
end-from a b (name-look n1) (name-look n2) n p q h = absurd (none-ne-some n h)
end-from a b (name-look n1) other-look n p q h = absurd (none-ne-some n h)
end-from a b other-look y n p q h = absurd (none-ne-some n h)

number-from : (a : Token) (x : Look) (z : ℤ) → Is x a → number_look x ≡ some z → a ≡ number z
unfolding number_look
number-from a open-look z p h = absurd (none-ne-some z h)
number-from a shut-look z p h = absurd (none-ne-some z h)
number-from a colon-look z p h = absurd (none-ne-some z h)
number-from a (number-look z1) z p h = p ∙ ap number (some-injective z1 z h)
number-from a (name-look n1) z p h = absurd (none-ne-some z h)
number-from a other-look z p h = absurd (none-ne-some z h)

-- the tokens of a size
abbrev SizeTokens : ℤ → List Token → Type 0
SizeTokens z ts = ((ts ≡ []) × (pos 1 ≡ z)) ⊎ (ts ≡ square-open ∷ number z ∷ square-close ∷ [])

sizes : (ts : List Token) (z : ℤ) → size_read ts ≡ some z → SizeTokens z ts
unfolding size_read
sizes [] z h = inl (refl, some-injective (pos 1) z h)
sizes (a ∷ []) z h = absurd (none-ne-some z h)
sizes (a ∷ b ∷ []) z h = absurd (none-ne-some z h)
sizes (a ∷ b ∷ c ∷ []) z h = inr (size-from a b c (look_at a) (look_at b) (look_at c) z (look_is a) (look_is b) (look_is c) h)
sizes (a ∷ b ∷ c ∷ d ∷ ts) z h = absurd (none-ne-some z h)

names : (ts : List Token) (n : List ℕ) → name_of ts ≡ some n → ts ≡ name n ∷ mark colon ∷ []
unfolding name_of
names [] n h = absurd (none-ne-some n h)
names (a ∷ []) n h = absurd (none-ne-some n h)
names (a ∷ b ∷ []) n h = end-from a b (look_at a) (look_at b) n (look_is a) (look_is b) h
names (a ∷ b ∷ c ∷ ts) n h = absurd (none-ne-some n h)

sized-from : (f : ℤ → List ℕ → Declaration) (o : Option ℤ) (q : Option (List ℕ)) (x : OutlineLine) → sized_declaration f o q ≡ some x
    → (z : ℤ) × (n : List ℕ) × (o ≡ some z) × (q ≡ some n) × (declare (f z n) ≡ x)
unfolding sized_declaration
sized-from f none q x h = absurd (none-ne-some x h)
sized-from f (some z) none x h = absurd (none-ne-some x h)
sized-from f (some z) (some n) x h = (z, n, refl, refl, some-injective (declare (f z n)) x h)

with_size : {m : Mark} {f : ℤ → List ℕ → Declaration} (z : ℤ) (n : List ℕ) (ts : List Token) → Sized m f → SizeTokens z ts
    → Spells (ts ++ (mark m ∷ name n ∷ mark colon ∷ [])) (declare (f z n))
with_size {m} {f} z n ts s (inl e) = rw (e.0, ← e.1) (declares (scalar s))
with_size {m} {f} z n ts s (inr e) = rw e (declares (array s))

pub sized-header : {m : Mark} {f : ℤ → List ℕ → Declaration} (ts us : List Token) (x : OutlineLine) → Sized m f → sized_declaration f (size_read ts) (name_of us) ≡ some x → Spells (ts ++ (mark m ∷ us)) x
sized-header {m} {f} ts us x s h =
    let (z, n, p, q, e) = sized-from f (size_read ts) (name_of us) x h in
    subst₂ (λ (vs : List Token) (y : OutlineLine). Spells (ts ++ (mark m ∷ vs)) y) (sym (names us n q)) e (with_size z n ts s (sizes ts z p))

pub in-header : (ts us : List Token) (x : OutlineLine) → host_in ts us ≡ some x → Spells (ts ++ (mark a-hostin ∷ us)) x
unfolding host_in named
in-header [] us x h = go (name_of us) refl h
  where
    go : (o : Option (List ℕ)) → name_of us ≡ o → named o ≡ some x → Spells (mark a-hostin ∷ us) x
    go none q h = absurd (none-ne-some x h)
    go (some n) q h = rw (names us n q, ← some-injective (declare (source n)) x h) (declares host-in)
in-header (t ∷ ts) us x h = absurd (none-ne-some x h)

pub out-header : (ts us : List Token) (x : OutlineLine) → host_out ts us ≡ some x → Spells (ts ++ (mark a-hostout ∷ us)) x
unfolding host_out
out-header [] [] x h = absurd (none-ne-some x h)
out-header [] (u ∷ us) x h =
    let (z, n, p, q, e) = sized-from sink (number_look (look_at u)) (name_of us) x h in
    subst₃ (λ (t : Token) (vs : List Token) (y : OutlineLine). Spells (mark a-hostout ∷ t ∷ vs) y) (sym (number-from u (look_at u) z (look_is u) p)) (sym (names us n q)) e (declares host-out)
out-header (t ∷ ts) us x h = absurd (none-ne-some x h)

pub header_read : {ts : List Token} {d : Declaration} → Header ts d → line_spelt ts ≡ some (declare d)
unfolding line_spelt of_cut cut_at_mark cut_at before token_mark sized_declaration named host_in host_out size_read size_look name_of end_look number_look look_at mark_look
header_read (scalar ints) = refl
header_read (scalar chans) = refl
header_read (array ints) = refl
header_read (array chans) = refl
header_read host-in = refl
header_read host-out = refl
