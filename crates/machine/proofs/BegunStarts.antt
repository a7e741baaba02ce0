-- The blocks that start with a process are those that the table tells: where they stand, and that the walk of settling starts the same.
use mathlib.Core.Path.{◌≡◌, refl, sym, ap, ap₂, subst, ◌∙◌}
use mathlib.Core.Logic.{◌⊎◌, inl, inr, ⊎_elim}
use mathlib.Core.Bool.{Bool, true, false}
use mathlib.Core.List.Memᴰ
use mathlib.Core.List.{List, [], ◌∷◌, ◌++◌, Memᴰ}
use Prim.Native.Nat.{ℕ, zero, suc}
use lib.ListN.{length, set, length-set}
use lib.Seq.{get_or-set_other}
use Rattle.meaning.specs.Declarations.{Variable}
use Rattle.meaning.specs.Tree.{Action, stop, skip, sequence, parallel, assign, input, output, conditional, loop, alternation, block, Process, node, Processes, empty, also, row_of, rows_in, rows_beneath}
use Rattle.meaning.specs.State.{state_of}
use Rattle.meaning.specs.Settle.{Mode, in_turn, together, by_step, mode, starts, next_mode, is_ended, settle, local_of, if_started, begun, begun_running, begun_each}
use Rattle.agreement.proofs.Frame.{row_in, see-local, length-local, off-look}
use Rattle.agreement.proofs.Again.{Sound, SoundM, Idle}
use Rattle.agreement.proofs.Reach.{self, inside, front, back}
use Rattle.agreement.proofs.Begun.{begun-node, begun-none, begun-members, begun-start, idle-begun}
use Rattle.agreement.proofs.BlocksStarted.{OneProcess, OneProcessM}
use Rattle.machine.proofs.AtOnce.{ends_at_once, at_once}
use Rattle.machine.proofs.ComeToWork.{In, InM, Block, variables_of, own_block, next_blocks, blocks_by, starts_blocks, member_blocks}

-- a process that has nothing local, or a block
pub local-none-or : (a : Action) → (local_of a ≡ []) ⊎ ((v : Variable) × (a ≡ block v))
local-none-or stop = inl refl
local-none-or skip = inl refl
local-none-or sequence = inl refl
local-none-or parallel = inl refl
local-none-or (assign v e f) = inl refl
local-none-or (input i) = inl refl
local-none-or (output c e f) = inl refl
local-none-or (conditional ts) = inl refl
local-none-or (loop e b) = inl refl
local-none-or (alternation bs) = inl refl
local-none-or (block v) = inr (v, refl)

pub variables-append : (x y : List Block) → variables_of (x ++ y) ≡ variables_of x ++ variables_of y
variables-append [] y = refl
variables-append (b ∷ x) y = ap (λ (l : List Variable). b.variable ∷ l) (variables-append x y)

-- ---- where they stand

-- a block stands among those of F
abbrev pub Stands : (Action → ℕ → Processes → Type 0) → Block → Type 0
Stands F y = (qs : Processes) × F (block y.variable) y.row qs

own-stands : (a : Action) (r : ℕ) (ms : Processes) (y : Block) → Memᴰ y (own_block (local_of a) r) → Stands (In (node a r ms)) y
own-stands a r ms y m = go (local-none-or a)
  where
    go : (local_of a ≡ []) ⊎ ((v : Variable) × (a ≡ block v)) → Stands (In (node a r ms)) y
    go (inl e) = absurd (Memᴰ.not-nil (subst (λ (vs : List Variable). Memᴰ y (own_block vs r)) e m))
    go (inr (v, e)) =
        let own : y ≡ record { row = r; variable = v } = Memᴰ.eq_of_singleton (subst (λ (k : Action). Memᴰ y (own_block (local_of k) r)) e m) in
        (ms, rw (own, e) self)

next-stands : (F : Action → ℕ → Processes → Type 0) (all b : Bool) (l : List Block) (y : Block) → (Memᴰ y l → Stands F y) → Memᴰ y (next_blocks all b l) → Stands F y
next-stands F all true l y f m = f m
next-stands F true false l y f m = f m
next-stands F false false l y f m = absurd (Memᴰ.not-nil m)

by-stands : (F : Action → ℕ → Processes → Type 0) (m : Mode) (f : Bool → List Block) (y : Block) → ((all : Bool) → Memᴰ y (f all) → Stands F y) → Memᴰ y (blocks_by m f) → Stands F y
by-stands F in_turn f y g m = g false m
by-stands F together f y g m = g true m
by-stands F by_step f y g m = absurd (Memᴰ.not-nil m)

mutual
  pub starts-stand : (p : Process) (y : Block) → Memᴰ y (starts_blocks p) → Stands (In p) y
  starts-stand (node a r ms) y m =
      ⊎_elim (own-stands a r ms y) (by-stands (In (node a r ms)) (mode a) (λ all. member_blocks ms all) y (λ all q. let (qs, u) = members-stand ms all y q in (qs, inside u)))
      (Memᴰ.append_cases (own_block (local_of a) r) m)

  pub members-stand : (ms : Processes) (all : Bool) (y : Block) → Memᴰ y (member_blocks ms all) → Stands (InM ms) y
  members-stand empty all y m = absurd (Memᴰ.not-nil m)
  members-stand (also p ms) all y m =
      ⊎_elim (λ q. let (qs, u) = starts-stand p y q in (qs, front u))
      (next-stands (InM (also p ms)) all (ends_at_once p) (member_blocks ms all) y (λ q. let (qs, u) = members-stand ms all y q in (qs, back u)))
      (Memᴰ.append_cases (starts_blocks p) m)

-- ---- the walk of settling starts the same

-- members that are idle, walked in turn or together
abbrev Walked : Bool → Mode
Walked false = in_turn
Walked true = together

may-start : (all : Bool) → starts (Walked all) ≡ true
may-start false = refl
may-start true = refl

module _ (n : ℕ) where
  -- after the first member, which t leaves in state j
  next-begun : (all : Bool) (ms : Processes) (t : List ℕ) (j : ℕ) → Idle (rows_beneath ms) t → begun_each ms (Walked all) [] t ≡ variables_of (member_blocks ms all)
      → begun_each ms (next_mode (Walked all) j) [] t ≡ variables_of (next_blocks all (is_ended j) (member_blocks ms all))
  next-begun false ms t zero i e = idle-begun ms [] t i
  next-begun false ms t (suc zero) i e = idle-begun ms [] t i
  next-begun false ms t (suc (suc zero)) i e = e
  next-begun false ms t (suc (suc (suc j))) i e = idle-begun ms [] t i
  next-begun true ms t zero i e = e
  next-begun true ms t (suc zero) i e = e
  next-begun true ms t (suc (suc zero)) i e = e
  next-begun true ms t (suc (suc (suc j))) i e = e

  -- a process, whose members start so
  module _ (a : Action) (r : ℕ) (ms : Processes) (d : Sound (node a r ms) n) (one : OneProcess (node a r ms)) (s : List ℕ) (i : Idle (rows_in (node a r ms)) s)
      (M : (all : Bool) → begun_each ms (Walked all) [] (set s r 1) ≡ variables_of (member_blocks ms all)) where
    abbrev u : List ℕ
    u = set s r 1

    beneath : Idle (rows_beneath ms) u
    beneath y q = get_or-set_other s r y 1 0 (λ e. d.1 (Memᴰ.cast (sym e) q)) ∙ i y (Memᴰ.tail q)

    each-begun : (m : Mode) → begun_each ms m [] u ≡ variables_of (blocks_by m (λ all. member_blocks ms all))
    each-begun in_turn = M false
    each-begun together = M true
    each-begun by_step = idle-begun ms [] u beneath

    -- a block starts its process, and its variable is begun
    block-begun : (v : Variable) (q : Process) → ms ≡ also q empty → begun_each ms in_turn (v ∷ []) u ≡ v ∷ variables_of (member_blocks ms false)
    block-begun v q e =
        let idle : state_of u q ≡ 0 = beneath (row_of q) (rw e (Memᴰ.append_left (rows_beneath empty) (row_in q))) in
        let t = settle q true u in
        let first : (vs : List Variable) → begun_each (also q empty) in_turn vs u ≡ vs ++ (begun q true u ++ [])
        = λ vs. begun-members q empty in_turn vs u ∙ ap₂ (λ (k : ℕ) (ws : List Variable). if_started k true vs ++ (begun q true u ++ ws)) idle (begun-none (next_mode in_turn (state_of t q)) vs t) in
        ap (λ (qs : Processes). begun_each qs in_turn (v ∷ []) u) e ∙ first (v ∷ [])
        ∙ ap (λ (ws : List Variable). v ∷ ws) (sym (first []) ∙ ap (λ (qs : Processes). begun_each qs in_turn [] u) (sym e) ∙ each-begun in_turn)

    node-begun : (local_of a ≡ []) ⊎ ((v : Variable) × (a ≡ block v)) → begun_each ms (mode a) (local_of a) u ≡ variables_of (starts_blocks (node a r ms))
    node-begun (inl e) =
        ap (λ (vs : List Variable). begun_each ms (mode a) vs u) e ∙ each-begun (mode a)
        ∙ sym (ap (λ (vs : List Variable). variables_of (own_block vs r ++ blocks_by (mode a) (λ all. member_blocks ms all))) e)
    node-begun (inr (v, e)) =
        let (q, z) = one v r ms (subst (λ (k : Action). In (node a r ms) k r ms) e self) in
        ap (λ (k : Action). begun_each ms (mode k) (local_of k) u) e ∙ block-begun v q z
        ∙ sym (ap (λ (k : Action). variables_of (own_block (local_of k) r ++ blocks_by (mode k) (λ all. member_blocks ms all))) e)

  mutual
    pub starts-begun : (p : Process) → Sound p n → OneProcess p → (s : List ℕ) → length s ≡ n → Idle (rows_in p) s → begun_running p (set s (row_of p) 1) ≡ variables_of (starts_blocks p)
    starts-begun (node a r ms) d one s l i =
        let u = set s r 1 in
        let beneath : Idle (rows_beneath ms) u = λ y q. get_or-set_other s r y 1 0 (λ e. d.1 (Memᴰ.cast (sym e) q)) ∙ i y (Memᴰ.tail q) in
        begun-node a r ms u
        ∙ node-begun a r ms d one s i (λ all. members-begun ms d.2 (λ v q ns h. one v q ns (inside h)) all u (length-set s r 1 ∙ l) beneath) (local-none-or a)

    pub members-begun : (ms : Processes) → SoundM ms n → OneProcessM ms → (all : Bool) (s : List ℕ) → length s ≡ n → Idle (rows_beneath ms) s → begun_each ms (Walked all) [] s ≡ variables_of (member_blocks ms all)
    members-begun empty d one all s l i = begun-none (Walked all) [] s
    members-begun (also p ms) d one all s l i =
        let own : Idle (rows_in p) s = λ y q. i y (Memᴰ.append_left (rows_beneath ms) q) in
        let t = settle p true s in
        let later : Idle (rows_beneath ms) t = λ y q. off-look (see-local p true) s y (λ z. d.2 y z q) ∙ i y (Memᴰ.append_right (rows_in p) q) in
        let size : length t ≡ n = length-local (see-local p true) s ∙ l in
        let first : begun p true s ≡ variables_of (starts_blocks p) = begun-start p s (own (row_of p) (row_in p)) ∙ starts-begun p d.0 (λ v r qs u. one v r qs (front u)) s l own in
        let rest = next-begun all ms t (state_of t p) later (members-begun ms d.1 (λ v r qs u. one v r qs (back u)) all t size later) in
        let once : variables_of (next_blocks all (is_ended (state_of t p)) (member_blocks ms all)) ≡ variables_of (next_blocks all (ends_at_once p) (member_blocks ms all))
        = ap (λ (b : Bool). variables_of (next_blocks all b (member_blocks ms all))) (at_once n p d.0 s l own) in
        begun-members p ms (Walked all) [] s
        ∙ ap (λ (b : Bool). if_started (state_of s p) b [] ++ (begun p b s ++ begun_each ms (next_mode (Walked all) (state_of (settle p b s) p)) [] (settle p b s))) (may-start all)
        ∙ ap (λ (k : ℕ). if_started k true [] ++ (begun p true s ++ begun_each ms (next_mode (Walked all) (state_of t p)) [] t)) (own (row_of p) (row_in p))
        ∙ ap₂ (λ (x y : List Variable). x ++ y) first (rest ∙ once)
        ∙ sym (variables-append (starts_blocks p) (next_blocks all (ends_at_once p) (member_blocks ms all)))
