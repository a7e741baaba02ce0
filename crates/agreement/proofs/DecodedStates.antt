-- Results can be read back: decoding what `encode` left gives the state, so equal buffers mean equal states.
use mathlib.Core.Path.{◌≡◌, refl, sym, ap, ap₂, ◌∙◌}
use mathlib.Core.Bool.{true}
use mathlib.Core.List.{List, [], ◌∷◌, ◌++◌, map, map-append}
use Prim.Native.Nat.{ℕ, zero, suc, ◌<◌}
use native.Mathlib.Omega.{arith}
use native.Mathlib.Decide.{dec_lt}
use lib.IntN.{pos}
use lib.ListN.{length, get_or, length-append, length-map, get_or-append}
use lib.Seq.{ext_get_or, get_or_at}
use Rattle.meaning.specs.Limits.{max_rows, max_cells, max_host_channels}
use Rattle.meaning.specs.Basics.{all_below}
use Rattle.meaning.specs.Rows.{row_count}
use Rattle.meaning.specs.Declarations.{total_cells, host_channels, capacity_at, channels}
use Rattle.meaning.specs.Values.{Message}
use Rattle.meaning.specs.Buffers.{mark, number_in, decoded, encode}
use Rattle.meaning.specs.Decode.{listed_in, decode}
use Rattle.meaning.proofs.LentLaws.{lent-whole}
use Rattle.agreement.specs.BufferClaims.{DecodedState, EqualBuffers}
use Rattle.agreement.proofs.AsDeclared.{reached-as-declared}
use Rattle.agreement.proofs.WrittenLists.{left-written}
use Rattle.agreement.proofs.HostOutputs.{output-count}
use Rattle.agreement.proofs.MissingMarks.{decoded-cells}
use Rattle.agreement.proofs.TableLimits.{limited}

-- the numbers below n
below_length : (n : ℕ) → length (all_below (λ port. true) n) ≡ n
unfolding all_below
below_length zero = refl
below_length (suc n) = omega (arith, length-append (all_below (λ port. true) n) (n ∷ []), below_length n)

-- a list made of the numbers below n
made_at : {A : Type 0} (f : ℕ → A) (d : A) (n i : ℕ) → i < n → get_or (map f (all_below (λ port. true) n)) i d ≡ f i
unfolding all_below
made_at f d zero i h = absurd (omega arith)
made_at {A} f d (suc n) i h = ap (λ (l : List A). get_or l i d) (map-append f all (n ∷ [])) ∙ go (dec_lt i n) (made_at f d n i)
  where
    all : List ℕ
    all = all_below (λ port. true) n

    size : length (map f all) ≡ n
    size = length-map all f ∙ below_length n

    go : Dec (i < n) → (i < n → get_or (map f all) i d ≡ f i) → get_or (map f all ++ (f n ∷ [])) i d ≡ f i
    go (yes l) k = get_or-append (map f all) (f n ∷ []) d i (omega (arith, size)) ∙ k l
    go (no l) k = let e : n ≡ i = omega arith in get_or_at (map f all) (f n) [] d i (size ∙ e) ∙ ap f e

pub decoded-state : DecodedState
unfolding decode encode
decoded-state rows sheet s ok (l, o) b =
    let D = reached-as-declared rows sheet s ok (l, o) in
    let L = limited rows ok in
    let states = lent-whole 0 max_rows (row_count rows) s.states b.states D.states L.states in
    let cells =
    ap₂ decoded (lent-whole (pos 0) max_cells (total_cells rows) (map number_in s.store.cells) b.cells (length-map s.store.cells number_in ∙ D.cells) L.cells)
    (lent-whole 0 max_cells (total_cells rows) (map mark s.store.cells) b.marks (length-map s.store.cells mark ∙ D.cells) L.cells)
    ∙ decoded-cells s.store.cells in
    let places = lent-whole 0 max_host_channels (host_channels 1 rows) s.store.places b.places D.places L.places in
    let outputs = ext_get_or [] (map list all) s.store.outputs (length-map all list ∙ below_length (host_channels 2 rows) ∙ sym D.outputs)
    (λ i h. let k : i < host_channels 2 rows = omega (arith, length-map all list, below_length (host_channels 2 rows), h) in made_at list [] (host_channels 2 rows) i k ∙ written i k) in
    λ i. record { states = states i; store = record { cells = cells i; places = places i; outputs = outputs i } }
  where
    all : List ℕ
    all = all_below (λ port. true) (host_channels 2 rows)

    list : ℕ → List Message
    list port = listed_in rows port (encode rows s b)

    written : (port : ℕ) → port < host_channels 2 rows → list port ≡ get_or s.store.outputs port []
    written port h = (left-written rows ok sheet l s o b port (omega (arith, output-count rows, length-map (channels rows 2) (capacity_at rows), h))).0

pub equal-buffers : EqualBuffers
equal-buffers rows sheet other s t ok r q b c e = sym (decoded-state rows sheet s ok r b) ∙ ap (decode rows) e ∙ decoded-state rows other t ok q c
