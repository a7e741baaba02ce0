-- A process that starts from idle rows lists the rows that come to work by it and the blocks that start: those that the table tells, no more than it has rows, and no
-- row where it ends at once.
use mathlib.Core.Path.{◌≡◌, refl, sym, ap, subst, ◌∙◌}
use mathlib.Core.Bool.{Bool, true, false}
use mathlib.Core.Logic.{⊎_elim}
use mathlib.Core.List.Memᴰ
use mathlib.Core.List.{List, [], ◌∷◌, ◌++◌, Memᴰ}
use Prim.Native.Nat.{ℕ, zero, suc, ◌<◌, ◌≤◌}
use native.Mathlib.Omega.{arith}
use lib.ListN.{length, length-set, length-append}
use lib.Seq.{get_or-set_other}
use Rattle.meaning.specs.Declarations.{Variable}
use Rattle.meaning.specs.Tree.{Action, Process, node, Processes, empty, also, rows_in, rows_beneath}
use Rattle.meaning.specs.State.{state_of}
use Rattle.meaning.specs.Settle.{Mode, in_turn, together, by_step, mode, is_ended, local_of}
use Rattle.agreement.proofs.Again.{Out, Sound, SoundM, Idle}
use Rattle.machine.specs.Counts.{Kept, state_set, begins, list_block, remain, go_next, start_by, start_row, start_members}
use Rattle.machine.proofs.Starting.{start-node, start_none, start-also, started}
use Rattle.machine.proofs.AtOnce.{at_once_by, ends_at_once, all_end_at_once, at_once}
use Rattle.machine.proofs.ComeToWork.{next_work, work_by, starts_work, member_work, Block, rows_of, own_block, next_blocks, blocks_by, starts_blocks, member_blocks}
use Rattle.machine.proofs.CameLists.{Room, Lists, lists-one, lists-block, lists-none, lists-both, room_after, room-less}
use Rattle.machine.specs.Came.{Distinct}
use Rattle.machine.proofs.FewRows.{distinct-both}
use Rattle.machine.proofs.LiveRows.{both}

-- ---- a process that ends at once: no row comes to work

no-work : (m : Mode) (r : ℕ) (b : Bool) (f : Bool → List ℕ) → (b ≡ true → (all : Bool) → f all ≡ []) → at_once_by m b ≡ true → work_by m r f ≡ []
no-work in_turn r b f h e = h e false
no-work together r b f h e = h e true
no-work by_step r b f h e = let z : ◌≡◌ {A = Bool} false true = e in let y : ◌≡◌ {A = ℕ} 0 1 = cc in absurd (omega arith)

mutual
  pub ended-quiet : (p : Process) → ends_at_once p ≡ true → starts_work p ≡ []
  ended-quiet (node a r ms) = no-work (mode a) r (all_end_at_once ms) (λ all. member_work ms all) (λ e all. members-quiet ms all e)

  pub members-quiet : (ms : Processes) (all : Bool) → all_end_at_once ms ≡ true → member_work ms all ≡ []
  members-quiet empty all e = refl
  members-quiet (also p ms) all e = let (a, b) = both (ends_at_once p) (all_end_at_once ms) e in rw (ended-quiet p a, a) (members-quiet ms all b)

-- ---- no more rows than the process has

next-short : (all b : Bool) (l : List ℕ) → length (next_work all b l) ≤ length l
next-short all true l = omega arith
next-short true false l = omega arith
next-short false false l = omega arith

by-short : (m : Mode) (r c : ℕ) (f : Bool → List ℕ) → ((all : Bool) → length (f all) ≤ c) → length (work_by m r f) ≤ suc c
by-short in_turn r c f h = omega (arith, h false)
by-short together r c f h = omega (arith, h true)
by-short by_step r c f h = omega arith

mutual
  pub starts-short : (p : Process) → length (starts_work p) ≤ length (rows_in p)
  starts-short (node a r ms) = by-short (mode a) r (length (rows_beneath ms)) (λ all. member_work ms all) (λ all. members-short ms all)

  pub members-short : (ms : Processes) (all : Bool) → length (member_work ms all) ≤ length (rows_beneath ms)
  members-short empty all = omega arith
  members-short (also p ms) all =
      let next = next_work all (ends_at_once p) (member_work ms all) in
      omega (arith, length-append (starts_work p) next, length-append (rows_in p) (rows_beneath ms), starts-short p, members-short ms all, next-short all (ends_at_once p) (member_work ms all))

-- ---- no row twice

next-in : (all b : Bool) (l : List ℕ) (y : ℕ) → Memᴰ y (next_work all b l) → Memᴰ y l
next-in all true l y m = m
next-in true false l y m = m
next-in false false l y m = absurd (Memᴰ.not-nil m)

next-distinct : (all b : Bool) (l : List ℕ) → Distinct l → Distinct (next_work all b l)
next-distinct all true l d = d
next-distinct true false l d = d
next-distinct false false l d = tt

by_in : (m : Mode) (r : ℕ) (R : List ℕ) (f : Bool → List ℕ) → ((all : Bool) (y : ℕ) → Memᴰ y (f all) → Memᴰ y R) → (y : ℕ) → Memᴰ y (work_by m r f) → Memᴰ y (r ∷ R)
by_in in_turn r R f h y q = Memᴰ.tail (h false y q)
by_in together r R f h y q = Memᴰ.tail (h true y q)
by_in by_step r R f h y q = Memᴰ.head (Memᴰ.eq_of_singleton q)

mutual
  starts-in : (p : Process) (y : ℕ) → Memᴰ y (starts_work p) → Memᴰ y (rows_in p)
  starts-in (node a r ms) = by_in (mode a) r (rows_beneath ms) (λ all. member_work ms all) (λ all y m. members-in ms all y m)

  members-in : (ms : Processes) (all : Bool) (y : ℕ) → Memᴰ y (member_work ms all) → Memᴰ y (rows_beneath ms)
  members-in empty all y m = m
  members-in (also p ms) all y m =
      ⊎_elim (λ q. Memᴰ.append_left (rows_beneath ms) (starts-in p y q)) (λ q. Memᴰ.append_right (rows_in p) (members-in ms all y (next-in all (ends_at_once p) (member_work ms all) y q)))
      (Memᴰ.append_cases (starts_work p) m)

by-distinct : (m : Mode) (r : ℕ) (f : Bool → List ℕ) → ((all : Bool) → Distinct (f all)) → Distinct (work_by m r f)
by-distinct in_turn r f h = h false
by-distinct together r f h = h true
by-distinct by_step r f h = (Memᴰ.not-nil, tt)

mutual
  pub starts-distinct : (p : Process) (n : ℕ) → Sound p n → Distinct (starts_work p)
  starts-distinct (node a r ms) n d = by-distinct (mode a) r (λ all. member_work ms all) (λ all. members-distinct ms n d.2 all)

  pub members-distinct : (ms : Processes) (n : ℕ) → SoundM ms n → (all : Bool) → Distinct (member_work ms all)
  members-distinct empty n d all = tt
  members-distinct (also p ms) n d all =
      let l = member_work ms all in
      distinct-both (starts_work p) (next_work all (ends_at_once p) l) (starts-distinct p n d.0) (next-distinct all (ends_at_once p) l (members-distinct ms n d.1 all))
      (λ y q m. d.2 y (starts-in p y q) (members-in ms all y (next-in all (ends_at_once p) l y m)))

-- ---- blocks: their rows, and no more than the process has rows

pub rows_append : (x y : List Block) → rows_of (x ++ y) ≡ rows_of x ++ rows_of y
rows_append [] y = refl
rows_append (b ∷ x) y = ap (λ (l : List ℕ). b.row ∷ l) (rows_append x y)

pub rows-length : (x : List Block) → length (rows_of x) ≡ length x
rows-length [] = refl
rows-length (b ∷ x) = ap suc (rows-length x)

own-short : (vs : List Variable) (r : ℕ) → length (own_block vs r) ≤ 1
own-short [] r = omega arith
own-short (v ∷ vs) r = omega arith

blocks-short : (m : Mode) (c : ℕ) (f : Bool → List Block) → ((all : Bool) → length (f all) ≤ c) → length (blocks_by m f) ≤ c
blocks-short in_turn c f h = h false
blocks-short together c f h = h true
blocks-short by_step c f h = omega arith

next-few : (all b : Bool) (l : List Block) → length (next_blocks all b l) ≤ length l
next-few all true l = omega arith
next-few true false l = omega arith
next-few false false l = omega arith

mutual
  pub starts-few : (p : Process) → length (starts_blocks p) ≤ length (rows_in p)
  starts-few (node a r ms) =
      let b = blocks_by (mode a) (λ all. member_blocks ms all) in
      omega (arith, length-append (own_block (local_of a) r) b, own-short (local_of a) r, blocks-short (mode a) (length (rows_beneath ms)) (λ all. member_blocks ms all) (λ all. members-few ms all))

  pub members-few : (ms : Processes) (all : Bool) → length (member_blocks ms all) ≤ length (rows_beneath ms)
  members-few empty all = omega arith
  members-few (also p ms) all =
      let next = next_blocks all (ends_at_once p) (member_blocks ms all) in
      omega (arith, length-append (starts_blocks p) next, length-append (rows_in p) (rows_beneath ms), starts-few p, members-few ms all, next-few all (ends_at_once p) (member_blocks ms all))

-- ---- the rows and the blocks that the table tells are listed

pub remain-came : (r c : ℕ) (k : Kept) → (remain r c k).came ≡ k.came
remain-came r zero k = refl
remain-came r (suc c) k = refl

-- the lists of c have the rows w and the blocks u more than those of l, if there is room
abbrev pub Gets : List ℕ → List Block → List ℕ → List ℕ → Type 0
Gets w u l c = Room (length w) (length u) l → Lists w (rows_of u) l c

-- one after the other
pub gets-both : (v w : List ℕ) (x y : List Block) {k l c : List ℕ} → Gets v x k l → Gets w y l c → Gets (v ++ w) (x ++ y) k c
gets-both v w x y {k} {l} {c} f g R =
    let e = length-append v w in
    let h = length-append x y in
    let L = f (room-less (omega arith) (omega arith) R) in
    let n = rows-length x in
    let M = g (room_after (length w) (length y) L (room-less (omega arith) (omega arith) R)) in
    subst (λ (z : List ℕ). Lists (v ++ w) z k c) (sym (rows_append x y)) (lists-both L M)

-- a process begins
begins-listed : (vs : List Variable) (r : ℕ) (l : List ℕ) → Gets [] (own_block vs r) l (list_block vs r l)
begins-listed [] r l R = lists-none l
begins-listed (v ∷ vs) r l R = lists-block r l R

module _ (n : ℕ) where
  -- after a member that has started, which listed v and x
  member-came : (all b : Bool) (c : ℕ) (v w : List ℕ) (x y : List Block) (k j : Kept) (g : ℕ → Kept) → Gets v x k.came j.came → ((c : ℕ) → Gets w y j.came (g c).came)
      → Gets (v ++ next_work all b w) (x ++ next_blocks all b y) k.came (go_next all b c g j).came
  member-came all true c v w x y k j g L M = gets-both v w x y L (M c)
  member-came true false c v w x y k j g L M = gets-both v w x y L (M (suc c))
  member-came false false c v w x y k j g L M = gets-both v [] x [] L (λ R. lists-none j.came)

  module _ (a : Action) (r : ℕ) (ms : Processes) (k : Kept) where
    abbrev began : Kept
    began = begins a r (state_set r 1 k)

    node-came : ((all : Bool) → Gets (member_work ms all) (member_blocks ms all) began.came (start_members ms all r 0 began).came) → (m : Mode)
        → Gets (work_by m r (λ all. member_work ms all)) (blocks_by m (λ all. member_blocks ms all)) began.came (start_by m r (λ all j. start_members ms all r 0 j) began).came
    node-came M in_turn = M false
    node-came M together = M true
    node-came M by_step = lists-one r began.came

  mutual
    pub start-lists : (p : Process) → Sound p n → (k : Kept) → length k.states ≡ n → n ≤ length k.left → Idle (rows_in p) k.states
        → Gets (starts_work p) (starts_blocks p) k.came (start_row p k).came
    start-lists (node a r ms) d k l h i =
        rw (start-node a r ms k)
        (gets-both [] (work_by (mode a) r (λ all. member_work ms all)) (own_block (local_of a) r) (blocks_by (mode a) (λ all. member_blocks ms all)) (begins-listed (local_of a) r k.came) (node-came a r ms k
        (λ all. members-list ms d.2 all r 0 d.0 d.1 (began a r ms k) (length-set k.states r 1 ∙ l) h (λ y q. get_or-set_other k.states r y 1 0 (λ e. d.1 (Memᴰ.cast (sym e) q)) ∙ i y (Memᴰ.tail q)))
        (mode a)))

    pub members-list : (ms : Processes) → SoundM ms n → (all : Bool) (r c : ℕ) → r < n → Out r (rows_beneath ms) → (k : Kept) → length k.states ≡ n → n ≤ length k.left → Idle (rows_beneath ms) k.states
        → Gets (member_work ms all) (member_blocks ms all) k.came (start_members ms all r c k).came
    members-list empty d all r c lt o k l h i = rw (start_none all r c k, remain-came r c k) (λ R. lists-none k.came)
    members-list (also p ms) d all r c lt o k l h i =
        let own : Idle (rows_in p) k.states = λ y q. i y (Memᴰ.append_left (rows_beneath ms) q) in
        let S = started n p d.0 k l h own in
        let j = start_row p k in
        let later : Idle (rows_beneath ms) j.states = λ y q. S.within.states-other y (λ z. d.2 y z q) ∙ i y (Memᴰ.append_right (rows_in p) q) in
        let once : is_ended (state_of j.states p) ≡ ends_at_once p = ap (λ (t : List ℕ). is_ended (state_of t p)) S.states-are ∙ at_once n p d.0 k.states l own in
        rw (start-also p ms all r c k, once)
        (member-came all (ends_at_once p) c (starts_work p) (member_work ms all) (starts_blocks p) (member_blocks ms all) k j (λ c. start_members ms all r c j) (start-lists p d.0 k l h own)
        (λ c. members-list ms d.1 all r c lt (λ q. o (Memᴰ.append_right (rows_in p) q)) j (S.within.states-size ∙ l) (rw S.within.left-size h) later))
