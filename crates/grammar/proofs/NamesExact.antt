-- 13 is given at the lowest line on which names are not in order: the uses of a line are those of its list, and the first declaration of a name is the one that is found.
use mathlib.Core.Path.{◌≡◌, refl, sym, ap, subst, ◌∙◌}
use mathlib.Core.Bool.{Bool, true, false, not, false≢true}
use mathlib.Core.Logic.{◌≢◌, ◌⊎◌, inl, inr, ⊎_elim}
use mathlib.Core.List.Memᴰ
use mathlib.Core.List.{List, [], ◌∷◌, ◌++◌, Memᴰ}
use mathlib.Core.Option.{Option, none, some, none-ne-some, some-injective}
use Prim.Native.Nat.{ℕ, zero, suc, ◌<◌}
use native.Mathlib.Decide.{dec_lt}
use native.Mathlib.Omega.{arith}
use lib.IntN.{ℤ, pos}
use lib.ListN.{length, get_elem?}
use Rattle.meaning.specs.Basics.{if_else}
use Rattle.meaning.specs.Lines.{same}
use Rattle.meaning.proofs.Decides.{Decides, holding, failing, decides, decides-iff, decides_and, decides_or, decides_not, decides-any, decides-lt, decides-eq_z, lowest-decided}
use Rattle.meaning.proofs.NoFault.{same_refl, same-is}
use Rattle.grammar.specs.Grammar.{Syn, literal, bare, at, monadic, dyadic}
use Rattle.grammar.specs.Outline.{Declaration, variable, channel, source, sink, OutlineLine, declare, skip, stop, assign, input, output, seq, par, ifs, alts, while, test, guarded, allowed, Lined, lined}
use Rattle.grammar.specs.Names.{Sort, as-variable, as-input, as-output, Use, uses_in, element_uses, uses_of, name_of, size_of, serves, declaration_in, Found, one_later, or_later, first_declared, misused, declared_before, declared_again, line_misnamed, misnamed, names_fault}
use Rattle.grammar.specs.NameClaims.{UsedIn, bare-there, with-subscript, in-subscript, in-operand, in-first, in-second, ElementUsed, bare-element, element-at, in-its-subscript, UsedOn, target-used, value-used, input-used, input-target-used, output-used, sent-used, while-used, test-used, guard-used, guard-input-used, guard-target-used, allowed-used, Declares, a-variable, a-channel, a-source, a-sink, Serves, variable-serves, channel-gives, channel-takes, source-gives, sink-takes, DeclaredOn, FirstOn, UsedAt, Misnamed, again, nowhere, other-sort, not-one, NamesExactly}

-- Uses ------------------------------------------------------------------------------------------------------------------------------

only : {u v : Use} → Memᴰ u (v ∷ []) → u ≡ v
only m = ⊎_elim (λ e. e) (λ n. absurd (Memᴰ.not-nil n)) (Memᴰ.cases_cons m)

used-in : (e : Syn) (u : Use) → Memᴰ u (uses_in e) → UsedIn e u
used-in (literal z) u m = absurd (Memᴰ.not-nil m)
used-in (bare n) u m = subst (UsedIn (bare n)) (sym (only m)) bare-there
used-in (at n e) u m = ⊎_elim (λ q. subst (UsedIn (at n e)) (sym q) with-subscript) (λ r. in-subscript (used-in e u r)) (Memᴰ.cases_cons m)
used-in (monadic k e) u m = in-operand (used-in e u m)
used-in (dyadic k e f) u m = ⊎_elim (λ r. in-first (used-in e u r)) (λ r. in-second (used-in f u r)) (Memᴰ.append_cases (uses_in e) m)

in-uses : {e : Syn} {u : Use} → UsedIn e u → Memᴰ u (uses_in e)
in-uses bare-there = Memᴰ.head refl
in-uses with-subscript = Memᴰ.head refl
in-uses (in-subscript p) = Memᴰ.tail (in-uses p)
in-uses (in-operand p) = in-uses p
in-uses (in-first {f} p) = Memᴰ.append_left (uses_in f) (in-uses p)
in-uses (in-second {e} p) = Memᴰ.append_right (uses_in e) (in-uses p)

used-element : (s : Sort) (e : Syn) (u : Use) → Memᴰ u (element_uses s e) → ElementUsed s e u
used-element s (literal z) u m = absurd (Memᴰ.not-nil m)
used-element s (bare n) u m = subst (ElementUsed s (bare n)) (sym (only m)) bare-element
used-element s (at n e) u m = ⊎_elim (λ q. subst (ElementUsed s (at n e)) (sym q) element-at) (λ r. in-its-subscript (used-in e u r)) (Memᴰ.cases_cons m)
used-element s (monadic k e) u m = absurd (Memᴰ.not-nil m)
used-element s (dyadic k e f) u m = absurd (Memᴰ.not-nil m)

in-element : {s : Sort} {e : Syn} {u : Use} → ElementUsed s e u → Memᴰ u (element_uses s e)
in-element bare-element = Memᴰ.head refl
in-element element-at = Memᴰ.head refl
in-element (in-its-subscript p) = Memᴰ.tail (in-uses p)

used-on : (x : OutlineLine) (u : Use) → Memᴰ u (uses_of x) → UsedOn x u
used-on (declare d) u m = absurd (Memᴰ.not-nil m)
used-on skip u m = absurd (Memᴰ.not-nil m)
used-on stop u m = absurd (Memᴰ.not-nil m)
used-on (assign a e) u m = ⊎_elim (λ r. target-used (used-element as-variable a u r)) (λ r. value-used (used-in e u r)) (Memᴰ.append_cases (element_uses as-variable a) m)
used-on (input c a) u m = ⊎_elim (λ r. input-used (used-element as-input c u r)) (λ r. input-target-used (used-element as-variable a u r)) (Memᴰ.append_cases (element_uses as-input c) m)
used-on (output c e) u m = ⊎_elim (λ r. output-used (used-element as-output c u r)) (λ r. sent-used (used-in e u r)) (Memᴰ.append_cases (element_uses as-output c) m)
used-on seq u m = absurd (Memᴰ.not-nil m)
used-on par u m = absurd (Memᴰ.not-nil m)
used-on ifs u m = absurd (Memᴰ.not-nil m)
used-on alts u m = absurd (Memᴰ.not-nil m)
used-on (while e) u m = while-used (used-in e u m)
used-on (test e) u m = test-used (used-in e u m)
used-on (guarded e c a) u m =
    ⊎_elim (λ r. guard-used (used-in e u r)) (λ r. ⊎_elim (λ q. guard-input-used (used-element as-input c u q)) (λ q. guard-target-used (used-element as-variable a u q)) (Memᴰ.append_cases (element_uses as-input c) r))
    (Memᴰ.append_cases (uses_in e) m)
used-on (allowed e) u m = allowed-used (used-in e u m)

on_line : {x : OutlineLine} {u : Use} → UsedOn x u → Memᴰ u (uses_of x)
on_line (target-used {e} p) = Memᴰ.append_left (uses_in e) (in-element p)
on_line (value-used {a} p) = Memᴰ.append_right (element_uses as-variable a) (in-uses p)
on_line (input-used {a} p) = Memᴰ.append_left (element_uses as-variable a) (in-element p)
on_line (input-target-used {c} p) = Memᴰ.append_right (element_uses as-input c) (in-element p)
on_line (output-used {e} p) = Memᴰ.append_left (uses_in e) (in-element p)
on_line (sent-used {c} p) = Memᴰ.append_right (element_uses as-output c) (in-uses p)
on_line (while-used p) = in-uses p
on_line (test-used p) = in-uses p
on_line (guard-used {c} {a} p) = Memᴰ.append_left (element_uses as-input c ++ element_uses as-variable a) (in-uses p)
on_line (guard-input-used {e} {a} p) = Memᴰ.append_right (uses_in e) (Memᴰ.append_left (element_uses as-variable a) (in-element p))
on_line (guard-target-used {e} {c} p) = Memᴰ.append_right (uses_in e) (Memᴰ.append_right (element_uses as-input c) (in-element p))
on_line (allowed-used p) = in-uses p

-- Declarations ----------------------------------------------------------------------------------------------------------------------

pub its-name : (d : Declaration) → Declares d (name_of d) (size_of d)
its-name (variable z n) = a-variable
its-name (channel z n) = a-channel
its-name (source n) = a-source
its-name (sink z n) = a-sink

pub name-is : {d : Declaration} {n : List ℕ} {z : ℤ} → Declares d n z → (n ≡ name_of d) × (z ≡ size_of d)
name-is a-variable = (refl, refl)
name-is a-channel = (refl, refl)
name-is a-source = (refl, refl)
name-is a-sink = (refl, refl)

serves-true : {d : Declaration} {s : Sort} → Serves d s → serves d s ≡ true
serves-true variable-serves = refl
serves-true channel-gives = refl
serves-true channel-takes = refl
serves-true source-gives = refl
serves-true sink-takes = refl

true-serves : (d : Declaration) (s : Sort) → serves d s ≡ true → Serves d s
true-serves (variable z n) as-variable e = variable-serves
true-serves (variable z n) as-input e = absurd (false≢true e)
true-serves (variable z n) as-output e = absurd (false≢true e)
true-serves (channel z n) as-variable e = absurd (false≢true e)
true-serves (channel z n) as-input e = channel-gives
true-serves (channel z n) as-output e = channel-takes
true-serves (source n) as-variable e = absurd (false≢true e)
true-serves (source n) as-input e = source-gives
true-serves (source n) as-output e = absurd (false≢true e)
true-serves (sink z n) as-variable e = absurd (false≢true e)
true-serves (sink z n) as-input e = absurd (false≢true e)
true-serves (sink z n) as-output e = sink-takes

pub decides-serves : (d : Declaration) (s : Sort) → Decides (Serves d s) (serves d s)
decides-serves d s = decides (serves d s) (true-serves d s) (λ e h. false≢true (sym e ∙ serves-true h))

pub declared-line : (x : OutlineLine) (d : Declaration) → declaration_in x ≡ some d → x ≡ declare d
declared-line (declare d) c e = ap declare (some-injective d c e)
declared-line skip d e = absurd (none-ne-some d e)
declared-line stop d e = absurd (none-ne-some d e)
declared-line (assign a f) d e = absurd (none-ne-some d e)
declared-line (input c a) d e = absurd (none-ne-some d e)
declared-line (output c f) d e = absurd (none-ne-some d e)
declared-line seq d e = absurd (none-ne-some d e)
declared-line par d e = absurd (none-ne-some d e)
declared-line ifs d e = absurd (none-ne-some d e)
declared-line alts d e = absurd (none-ne-some d e)
declared-line (while f) d e = absurd (none-ne-some d e)
declared-line (test f) d e = absurd (none-ne-some d e)
declared-line (guarded f c a) d e = absurd (none-ne-some d e)
declared-line (allowed f) d e = absurd (none-ne-some d e)

-- The first declaration of a name ---------------------------------------------------------------------------------------------------

-- what is found
pub data Finding (n : List ℕ) (ls : List Lined) : Option Found → Type 0 where
  not-declared : ((j : ℕ) (d : Declaration) (z : ℤ) → ¬ DeclaredOn ls j n d z) → Finding n ls none
  declared-first : {f : Found} {z : ℤ} → FirstOn ls f.before n f.declaration z → Finding n ls (some f)

-- a line that does not declare the name comes first
one_further : (n : List ℕ) (y : Lined) (ls : List Lined) (o : Option Found) → ((d : Declaration) (z : ℤ) → ¬ DeclaredOn (y ∷ ls) 0 n d z) → Finding n ls o → Finding n (y ∷ ls) (one_later o)
one_further n y ls o free (not-declared f) = not-declared none-there
  where
    none-there : (j : ℕ) (d : Declaration) (z : ℤ) → ¬ DeclaredOn (y ∷ ls) j n d z
    none-there zero d z h = free d z h
    none-there (suc j) d z h = f j d z h
one_further n y ls o free (declared-first {f} {z} p) = declared-first {z = z} (record { declared = p.declared; none_before = none-there })
  where
    none-there : (j : ℕ) → j < suc f.before → (c : Declaration) (w : ℤ) → ¬ DeclaredOn (y ∷ ls) j n c w
    none-there zero l c w h = free c w h
    none-there (suc j) l c w h = p.none_before j (omega arith) c w h

pub line-is : {l m : ℕ} {x : OutlineLine} {d : Declaration} → some (lined l x) ≡ some (lined m (declare d)) → x ≡ declare d
line-is e = cc

pub finding : (n : List ℕ) (ls : List Lined) → Finding n ls (first_declared n ls)
unfolding first_declared
finding n [] = not-declared (λ j d z h. none-ne-some _ h.1)
finding n (lined l x ∷ ls) = go (declaration_in x) refl (finding n ls)
  where
    go : (o : Option Declaration) → declaration_in x ≡ o → Finding n ls (first_declared n ls) → Finding n (lined l x ∷ ls) (or_later n o (one_later (first_declared n ls)))
    go none e h = one_further n (lined l x) ls (first_declared n ls) (λ d z p. none-ne-some d (sym e ∙ ap declaration_in (line-is p.1))) h
    go (some d) e h = by (same n (name_of d)) refl
      where
        here : x ≡ declare d
        here = declared-line x d e

        nothing-before : (j : ℕ) → j < 0 → (c : Declaration) (y : ℤ) → ¬ DeclaredOn (lined l x ∷ ls) j n c y
        nothing-before j h = absurd (omega arith)

        by : (t : Bool) → same n (name_of d) ≡ t → Finding n (lined l x ∷ ls) (if_else t (some (record { before = 0; declaration = d })) (one_later (first_declared n ls)))
        by true q =
            declared-first {z = size_of d} (record {
              declared = (l, ap (λ (w : OutlineLine). some (lined l w)) here, subst (λ (m : List ℕ). Declares d m (size_of d)) (sym (same-is n (name_of d) q)) (its-name d));
              none_before = nothing-before;
            })
        by false q = one_further n (lined l x) ls (first_declared n ls) other h
          where
            other : (c : Declaration) (z : ℤ) → ¬ DeclaredOn (lined l x ∷ ls) 0 n c z
            other c z p =
                let k : c ≡ d = some-injective c d (ap declaration_in (sym (line-is p.1)) ∙ e) in
                false≢true (sym q ∙ ap (same n) (ap name_of (sym k) ∙ sym (name-is p.2).0) ∙ same_refl n)

-- there is one
first_one : (ls : List Lined) {i j : ℕ} {n : List ℕ} {c d : Declaration} {y z : ℤ} → FirstOn ls i n c y → FirstOn ls j n d z → (i ≡ j) × (c ≡ d) × (y ≡ z)
first_one ls {i} {j} {n} {c} {d} {y} {z} p q = go (dec_lt i j) (dec_lt j i)
  where
    alike : i ≡ j → (i ≡ j) × (c ≡ d) × (y ≡ z)
    alike e =
        let k : declare c ≡ declare d = line-is (sym p.declared.1 ∙ ap (get_elem? ls) e ∙ q.declared.1) in
        let h : c ≡ d = some-injective c d (ap declaration_in k) in
        (e, h, (name-is p.declared.2).1 ∙ ap size_of h ∙ sym (name-is q.declared.2).1)

    go : Dec (i < j) → Dec (j < i) → (i ≡ j) × (c ≡ d) × (y ≡ z)
    go (yes l) h = absurd (q.none_before i l c y p.declared)
    go (no l) (yes h) = absurd (p.none_before j h d z q.declared)
    go (no l) (no h) = alike (omega arith)

-- Lines -----------------------------------------------------------------------------------------------------------------------------

module _ (ls : List Lined) where
  -- a use that is not in order
  abbrev WrongUse : Use → Type 0
  WrongUse u =
      ((j : ℕ) (d : Declaration) (z : ℤ) → ¬ DeclaredOn ls j u.named d z)
      ⊎ ((j : ℕ) × ((d : Declaration) × ((z : ℤ) × FirstOn ls j u.named d z × ((¬ Serves d u.sort) ⊎ ((u.bare-name ≡ true) × (z ≢ pos 1))))))

  decides-bare : (b : Bool) → Decides (b ≡ true) b
  decides-bare true = holding refl
  decides-bare false = failing (λ e. false≢true e)

  decides-use : (u : Use) → Decides (WrongUse u) (misused (first_declared u.named ls) u)
  decides-use u = go (first_declared u.named ls) (finding u.named ls)
    where
      go : (o : Option Found) → Finding u.named ls o → Decides (WrongUse u) (misused o u)
      go none (not-declared f) = holding (inl f)
      go (some f) (declared-first {z} p) =
          decides-iff (λ h. inr (f.before, (f.declaration, (z, p, to h)))) from
          (decides_or (decides_not (decides-serves f.declaration u.sort)) (decides_and (decides-bare u.bare-name) (decides_not (decides-eq_z (size_of f.declaration) (pos 1)))))
        where
          size : z ≡ size_of f.declaration
          size = (name-is p.declared.2).1

          to : (¬ Serves f.declaration u.sort) ⊎ ((u.bare-name ≡ true) × (size_of f.declaration ≢ pos 1)) → (¬ Serves f.declaration u.sort) ⊎ ((u.bare-name ≡ true) × (z ≢ pos 1))
          to h = ⊎_elim inl (λ k. inr (k.0, λ e. k.1 (sym size ∙ e))) h

          from : WrongUse u → (¬ Serves f.declaration u.sort) ⊎ ((u.bare-name ≡ true) × (size_of f.declaration ≢ pos 1))
          from (inl h) = absurd (h f.before f.declaration z p.declared)
          from (inr (j, (d, (w, q, h)))) =
              let (_, e, s) = first_one ls q p in
              ⊎_elim (λ k. inl (subst (λ (c : Declaration). ¬ Serves c u.sort) e k)) (λ k. inr (k.0, λ g. k.1 (s ∙ size ∙ g))) h

  -- a declaration on line i + 1 that is not the first
  abbrev Again : ℕ → OutlineLine → Type 0
  Again i x = (d : Declaration) × (x ≡ declare d) × ((j : ℕ) × (j < i) × ((c : Declaration) × ((y : ℤ) × DeclaredOn ls j (name_of d) c y)))

  decides-again : (i : ℕ) (x : OutlineLine) → Decides (Again i x) (declared_again ls i (declaration_in x))
  decides-again i x = go (declaration_in x) refl
    where
      go : (o : Option Declaration) → declaration_in x ≡ o → Decides (Again i x) (declared_again ls i o)
      go none e = failing (λ (d, h, k). none-ne-some d (sym e ∙ ap declaration_in h))
      go (some d) e = by (first_declared (name_of d) ls) (finding (name_of d) ls)
        where
          one : (c : Declaration) → x ≡ declare c → c ≡ d
          one c h = some-injective c d (sym (ap declaration_in h) ∙ e)

          by : (o : Option Found) → Finding (name_of d) ls o → Decides (Again i x) (declared_before i o)
          by none (not-declared f) = failing (λ (c, h, (j, l, (b, (y, k)))). f j b y (subst (λ (a : Declaration). DeclaredOn ls j (name_of a) b y) (one c h) k))
          by (some f) (declared-first {z} p) = decides-iff to from (decides-lt f.before i)
            where
              to : f.before < i → Again i x
              to l = (d, declared-line x d e, (f.before, l, (f.declaration, (z, p.declared))))

              from : Again i x → f.before < i
              from (c, h, (j, l, (b, (y, k)))) = near (dec_lt j f.before)
                where
                  near : Dec (j < f.before) → f.before < i
                  near (yes g) = absurd (p.none_before j g b y (subst (λ (a : Declaration). DeclaredOn ls j (name_of a) b y) (one c h) k))
                  near (no g) = omega arith

  abbrev WrongLine : ℕ → OutlineLine → Type 0
  WrongLine i x = Again i x ⊎ ((u : Use) × Memᴰ u (uses_of x) × WrongUse u)

  wrong-is : (i : ℕ) (x : OutlineLine) (l : ℕ) → get_elem? ls i ≡ some (lined l x) → WrongLine i x → Misnamed ls (suc i)
  wrong-is i x l e (inl (d, h, (j, k, (c, (y, p))))) =
      again k p (l, e ∙ ap (λ (w : OutlineLine). some (lined l w)) h, its-name d)
  wrong-is i x l e (inr (u, m, inl h)) = nowhere (l, (x, e, used-on x u m)) h
  wrong-is i x l e (inr (u, m, inr (j, (d, (z, p, inl h))))) = other-sort (l, (x, e, used-on x u m)) p h
  wrong-is i x l e (inr (u, m, inr (j, (d, (z, p, inr h))))) = not-one (l, (x, e, used-on x u m)) p h.0 h.1

  -- the line that stands at a place
  there : (i j : ℕ) {l m : ℕ} {x y : OutlineLine} → suc j ≡ suc i → get_elem? ls i ≡ some (lined l x) → get_elem? ls j ≡ some (lined m y) → y ≡ x
  there i j {l} {m} {x} {y} q e f = let w : j ≡ i = omega arith in let k : some (lined m y) ≡ some (lined l x) = sym f ∙ ap (get_elem? ls) w ∙ e in cc

  uses-there : (i : ℕ) (x : OutlineLine) (l : ℕ) → get_elem? ls i ≡ some (lined l x) → (j : ℕ) (u : Use) → suc j ≡ suc i → UsedAt ls j u → Memᴰ u (uses_of x)
  uses-there i x l e j u q (m, (y, f, p)) = subst (λ (w : OutlineLine). Memᴰ u (uses_of w)) (there i j q e f) (on_line p)

  is-wrong : {n : ℕ} → Misnamed ls n → (i : ℕ) (x : OutlineLine) (l : ℕ) → n ≡ suc i → get_elem? ls i ≡ some (lined l x) → WrongLine i x
  is-wrong (again {i = k} {j} {n} {c} {d} {y} {z} b p r) i x l q e =
      inl (d, sym (there i k q e r.1), (j, omega arith, (c, (y, subst (λ (m : List ℕ). DeclaredOn ls j m c y) (name-is r.2).0 p))))
  is-wrong (nowhere {i = k} {u} r h) i x l q e = inr (u, uses-there i x l e k u q r, inl h)
  is-wrong (other-sort {i = k} {j} {u} {d} {z} r p h) i x l q e = inr (u, uses-there i x l e k u q r, inr (j, (d, (z, p, inl h))))
  is-wrong (not-one {i = k} {j} {u} {d} {z} r p h g) i x l q e = inr (u, uses-there i x l e k u q r, inr (j, (d, (z, p, inr (h, g)))))

  -- every line that is misnamed stands there
  stands : {n : ℕ} → Misnamed ls n → (i : ℕ) → n ≡ suc i → get_elem? ls i ≡ none → ⊥
  stands (again {i = k} b p r) i q e = let w : k ≡ i = omega arith in none-ne-some _ (sym e ∙ ap (get_elem? ls) (sym w) ∙ r.1)
  stands (nowhere {i = k} r h) i q e = let w : k ≡ i = omega arith in none-ne-some _ (sym e ∙ ap (get_elem? ls) (sym w) ∙ r.1.1)
  stands (other-sort {i = k} r p h) i q e = let w : k ≡ i = omega arith in none-ne-some _ (sym e ∙ ap (get_elem? ls) (sym w) ∙ r.1.1)
  stands (not-one {i = k} r p h g) i q e = let w : k ≡ i = omega arith in none-ne-some _ (sym e ∙ ap (get_elem? ls) (sym w) ∙ r.1.1)

  no-line-0 : {n : ℕ} → Misnamed ls n → n ≡ 0 → ⊥
  no-line-0 (again b p r) q = omega arith
  no-line-0 (nowhere r h) q = omega arith
  no-line-0 (other-sort r p h) q = omega arith
  no-line-0 (not-one r p h g) q = omega arith

  decides-line : (n : ℕ) → Decides (Misnamed ls n) (misnamed ls n)
  decides-line zero = failing (λ m. no-line-0 m refl)
  decides-line (suc i) = go (get_elem? ls i) refl
    where
      go : (o : Option Lined) → get_elem? ls i ≡ o → Decides (Misnamed ls (suc i)) (line_misnamed ls i o)
      go none e = failing (λ m. stands m i refl e)
      go (some (lined l x)) e =
          decides-iff (wrong-is i x l e) (λ m. is-wrong m i x l refl e)
          (decides_or (decides-again i x) (decides-any WrongUse (λ u. misused (first_declared u.named ls) u) decides-use (uses_of x)))

pub names-exactly : NamesExactly
unfolding names_fault
names-exactly ls = lowest-decided (Misnamed ls) (misnamed ls) (decides-line ls) (suc (length ls))
