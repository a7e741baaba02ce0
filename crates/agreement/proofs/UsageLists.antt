-- The fields of a row that are references, as a list; and what is shown of each element of a short list.
use mathlib.Core.Path.{refl, sym, subst}
use mathlib.Core.Logic.{⊎_elim}
use mathlib.Core.List.Memᴰ
use mathlib.Core.List.{List, [], ◌∷◌, Memᴰ}
use Prim.Native.Nat.{ℕ}
use Rattle.meaning.specs.declared.Node.{Node}
use Rattle.meaning.specs.declared.Node.TheVariants.{Literal, Element, Monadic, Dyadic, Stop, Skip, Assignment, Input, Output, Seq, Par, If, While, Alt, Block, Member, Choice, OptionRow, Guard, Other}

-- the fields of a row that are references; a name is none
abbrev pub references : Node → List ℕ
references (Literal x) = []
references (Element a b) = b ∷ []
references (Monadic a b) = b ∷ []
references (Dyadic a b c) = b ∷ c ∷ []
references Stop = []
references Skip = []
references (Assignment a b c) = b ∷ c ∷ []
references (Input a b c) = b ∷ c ∷ []
references (Output a b c) = b ∷ c ∷ []
references (Seq a) = a ∷ []
references (Par a) = a ∷ []
references (If a) = a ∷ []
references (While a b) = a ∷ b ∷ []
references (Alt a) = a ∷ []
references (Block a b) = b ∷ []
references (Member a b) = a ∷ b ∷ []
references (Choice a b c) = a ∷ b ∷ c ∷ []
references (OptionRow a b c) = a ∷ b ∷ c ∷ []
references (Guard a b) = a ∷ b ∷ []
references Other = []

-- what is shown of each element of a list of one, two, three
pub one : (P : ℕ → Type 0) (x : ℕ) → P x → (c : ℕ) → Memᴰ c (x ∷ []) → P c
one P x f c m = ⊎_elim (λ e. subst P (sym e) f) (λ i. absurd (Memᴰ.not-nil i)) (Memᴰ.cases_cons m)

pub two : (P : ℕ → Type 0) (x y : ℕ) → P x → P y → (c : ℕ) → Memᴰ c (x ∷ y ∷ []) → P c
two P x y f g c m = ⊎_elim (λ e. subst P (sym e) f) (λ i. one P y g c i) (Memᴰ.cases_cons m)

pub three : (P : ℕ → Type 0) (x y z : ℕ) → P x → P y → P z → (c : ℕ) → Memᴰ c (x ∷ y ∷ z ∷ []) → P c
three P x y z f g h c m = ⊎_elim (λ e. subst P (sym e) f) (λ i. two P y z g h c i) (Memᴰ.cases_cons m)

-- the first, the second, the third of a list
pub m0 : {x : ℕ} {l : List ℕ} → Memᴰ x (x ∷ l)
m0 = Memᴰ.head refl

pub m1 : {x y : ℕ} {l : List ℕ} → Memᴰ x (y ∷ x ∷ l)
m1 = Memᴰ.tail m0

pub m2 : {x y z : ℕ} {l : List ℕ} → Memᴰ x (y ∷ z ∷ x ∷ l)
m2 = Memᴰ.tail m1
