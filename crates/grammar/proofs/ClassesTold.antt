-- The class of a line is told without its expressions, and what is expected depends on it alone.
use mathlib.Core.Path.{◌≡◌, refl, ap, ◌∙◌}
use mathlib.Core.Bool.{Bool, ◌&&◌}
use mathlib.Core.List.{List, [], ◌∷◌}
use mathlib.Core.Option.{Option, none, some, map}
use Prim.Native.Nat.{ℕ}
use lib.IntN.{ℤ}
use Rattle.meaning.specs.Basics.{if_else, is_some}
use Rattle.grammar.specs.Grammar.{a-skip, a-stop, a-seq, a-par, an-if, an-alt, a-while, becomes, asks, tells, ampersand, an_int, a-chan, a-hostin, a-hostout, colon, unused, Token, Syn}
use Rattle.grammar.specs.Machine.{phrase, element_of}
use Rattle.grammar.specs.Shapes.{is_phrase}
use Rattle.grammar.specs.Outline.{Declaration, variable, channel, source, sink, OutlineLine, declare, skip, stop, assign, input, output, seq, par, ifs, alts, while, test, guarded, allowed, members, choices, options, nothing, one-process, one-member, heads, process_beneath, choice, guard_beneath, is_declaration, starts_block, member_beneath, expected_beneath, expected_after}
use Rattle.grammar.specs.Lines.{Cut, uncut, parted, cut_at_mark, single, pair, word_alone, while_line, sized_declaration, named, host_in, host_out, guard_of, guard_after, of_cut, line_spelt, size_read, name_of, number_look, look_at}
use Rattle.grammar.specs.Classes.{Class, class_of, variable-line, other-declaration, leaf, input-line, while-line, test-line, guard-line, member_by_class, choice_by_class, guard_by_class, head_by_class, is_variable_line, is_declaration_line, ExpectedByClass, class_if, alone_class, while_class, host_in_class, host_out_class, guard_cut_class, cut_class, class_spelt, ClassTold}
use Rattle.grammar.proofs.ShapesDecide.{shapes-decide}

-- What is expected ------------------------------------------------------------------------------------------------------------------

-- the tables agree
by-class : (x : OutlineLine) → (member_beneath x ≡ member_by_class (class_of x)) × (choice x ≡ choice_by_class (class_of x)) × (guard_beneath x ≡ guard_by_class (class_of x))
    × (if_else (is_declaration x) (some nothing) (process_beneath x) ≡ head_by_class (class_of x)) × (starts_block x ≡ is_variable_line (class_of x)) × (is_declaration x ≡ is_declaration_line (class_of x))
by-class (declare (variable z n)) = (refl, refl, refl, refl, refl, refl)
by-class (declare (channel z n)) = (refl, refl, refl, refl, refl, refl)
by-class (declare (source n)) = (refl, refl, refl, refl, refl, refl)
by-class (declare (sink z n)) = (refl, refl, refl, refl, refl, refl)
by-class skip = (refl, refl, refl, refl, refl, refl)
by-class stop = (refl, refl, refl, refl, refl, refl)
by-class (assign a e) = (refl, refl, refl, refl, refl, refl)
by-class (input c a) = (refl, refl, refl, refl, refl, refl)
by-class (output c e) = (refl, refl, refl, refl, refl, refl)
by-class seq = (refl, refl, refl, refl, refl, refl)
by-class par = (refl, refl, refl, refl, refl, refl)
by-class ifs = (refl, refl, refl, refl, refl, refl)
by-class alts = (refl, refl, refl, refl, refl, refl)
by-class (while e) = (refl, refl, refl, refl, refl, refl)
by-class (test e) = (refl, refl, refl, refl, refl, refl)
by-class (guarded e c a) = (refl, refl, refl, refl, refl, refl)
by-class (allowed e) = (refl, refl, refl, refl, refl, refl)

pub expected-by-class : ExpectedByClass
unfolding expected_beneath expected_after
expected-by-class members x = let (m, _, _, _, s, _) = by-class x in (m, ap (λ (b : Bool). if_else b one-member members) s)
expected-by-class choices x = ((by-class x).1, refl)
expected-by-class options x = ((by-class x).2, refl)
expected-by-class nothing x = (refl, refl)
expected-by-class one-process x = let (m, _, _, _, s, _) = by-class x in (m, ap (λ (b : Bool). if_else b one-process nothing) s)
expected-by-class one-member x = let (m, _, _, _, s, _) = by-class x in (m, ap (λ (b : Bool). if_else b one-member members) s)
expected-by-class heads x = let (_, _, _, h, _, d) = by-class x in (h, ap (λ (b : Bool). if_else b heads nothing) d)

-- The class of tokens ---------------------------------------------------------------------------------------------------------------

abbrev told : Option OutlineLine → Option Class
told o = map class_of o

single-class : (f : Syn → OutlineLine) (c : Class) → ((e : Syn) → class_of (f e) ≡ c) → (o : Option Syn) → told (single f o) ≡ class_if (is_some o) c
unfolding single
single-class f c h none = refl
single-class f c h (some e) = ap some (h e)

pair-class : (f : Syn → Syn → OutlineLine) (c : Class) → ((e g : Syn) → class_of (f e g) ≡ c) → (o q : Option Syn) → told (pair f o q) ≡ class_if (is_some o && is_some q) c
unfolding pair
pair-class f c h none q = refl
pair-class f c h (some e) q = single-class (f e) c (h e) q

alone-class : (x : OutlineLine) (ts us : List Token) → told (word_alone x ts us) ≡ alone_class (class_of x) ts us
unfolding word_alone
alone-class x [] [] = refl
alone-class x [] (t ∷ us) = refl
alone-class x (t ∷ ts) us = refl

sized-class : (f : ℤ → List ℕ → Declaration) (c : Class) → ((z : ℤ) (n : List ℕ) → class_of (declare (f z n)) ≡ c) → (o : Option ℤ) (q : Option (List ℕ)) → told (sized_declaration f o q) ≡ class_if (is_some o && is_some q) c
unfolding sized_declaration
sized-class f c h none q = refl
sized-class f c h (some z) none = refl
sized-class f c h (some z) (some n) = ap some (h z n)

named-class : (o : Option (List ℕ)) → told (named o) ≡ class_if (is_some o) other-declaration
unfolding named
named-class none = refl
named-class (some n) = refl

-- with a phrase, by its shape
by_shape : (f : Syn → OutlineLine) (c : Class) → ((e : Syn) → class_of (f e) ≡ c) → (ts : List Token) → told (single f (phrase ts)) ≡ class_if (is_phrase ts) c
by_shape f c h ts = single-class f c h (phrase ts) ∙ ap (λ (b : Bool). class_if b c) (shapes-decide ts)

second-by-shape : (f : Syn → Syn → OutlineLine) (c : Class) → ((e g : Syn) → class_of (f e g) ≡ c) → (o : Option Syn) (ts : List Token) → told (pair f o (phrase ts)) ≡ class_if (is_some o && is_phrase ts) c
second-by-shape f c h o ts = pair-class f c h o (phrase ts) ∙ ap (λ (b : Bool). class_if (is_some o && b) c) (shapes-decide ts)

guard-class : (e : Syn) (c : Cut) → told (guard_of e c) ≡ guard_cut_class c
unfolding guard_of guard_cut_class
guard-class e (uncut ts) = refl
guard-class e (parted ts a-skip us) = alone-class (allowed e) ts us
guard-class e (parted ts a-stop us) = refl
guard-class e (parted ts a-seq us) = refl
guard-class e (parted ts a-par us) = refl
guard-class e (parted ts an-if us) = refl
guard-class e (parted ts an-alt us) = refl
guard-class e (parted ts a-while us) = refl
guard-class e (parted ts becomes us) = refl
guard-class e (parted ts asks us) = pair-class (guarded e) guard-line (λ c a. refl) (element_of ts) (element_of us)
guard-class e (parted ts tells us) = refl
guard-class e (parted ts ampersand us) = refl
guard-class e (parted ts an_int us) = refl
guard-class e (parted ts a-chan us) = refl
guard-class e (parted ts a-hostin us) = refl
guard-class e (parted ts a-hostout us) = refl
guard-class e (parted ts colon us) = refl
guard-class e (parted ts (unused k) us) = refl

guarded-class : (o : Option Syn) (c : Cut) → told (guard_after o c) ≡ if_else (is_some o) (guard_cut_class c) none
unfolding guard_after
guarded-class none c = refl
guarded-class (some e) c = guard-class e c

while-class : (ts us : List Token) → told (while_line ts us) ≡ while_class ts us
unfolding while_line
while-class [] us = by_shape while while-line (λ e. refl) us
while-class (t ∷ ts) us = refl

host-in-class : (ts us : List Token) → told (host_in ts us) ≡ host_in_class ts us
unfolding host_in
host-in-class [] us = named-class (name_of us)
host-in-class (t ∷ ts) us = refl

host-out-class : (ts us : List Token) → told (host_out ts us) ≡ host_out_class ts us
unfolding host_out
host-out-class [] [] = refl
host-out-class [] (u ∷ us) = sized-class sink other-declaration (λ z n. refl) (number_look (look_at u)) (name_of us)
host-out-class (t ∷ ts) us = refl

cut-class : (c : Cut) → told (of_cut c) ≡ cut_class c
unfolding of_cut cut_class
cut-class (uncut ts) = by_shape test test-line (λ e. refl) ts
cut-class (parted ts a-skip us) = alone-class skip ts us
cut-class (parted ts a-stop us) = alone-class stop ts us
cut-class (parted ts a-seq us) = alone-class seq ts us
cut-class (parted ts a-par us) = alone-class par ts us
cut-class (parted ts an-if us) = alone-class ifs ts us
cut-class (parted ts an-alt us) = alone-class alts ts us
cut-class (parted ts a-while us) = while-class ts us
cut-class (parted ts becomes us) = second-by-shape assign leaf (λ a e. refl) (element_of ts) us
cut-class (parted ts asks us) = pair-class input input-line (λ c a. refl) (element_of ts) (element_of us)
cut-class (parted ts tells us) = second-by-shape output leaf (λ c e. refl) (element_of ts) us
cut-class (parted ts ampersand us) = guarded-class (phrase ts) (cut_at_mark us) ∙ ap (λ (b : Bool). if_else b (guard_cut_class (cut_at_mark us)) none) (shapes-decide ts)
cut-class (parted ts an_int us) = sized-class variable variable-line (λ z n. refl) (size_read ts) (name_of us)
cut-class (parted ts a-chan us) = sized-class channel other-declaration (λ z n. refl) (size_read ts) (name_of us)
cut-class (parted ts a-hostin us) = host-in-class ts us
cut-class (parted ts a-hostout us) = host-out-class ts us
cut-class (parted ts colon us) = refl
cut-class (parted ts (unused k) us) = refl

pub class-told : ClassTold
unfolding line_spelt class_spelt
class-told ts = cut-class (cut_at_mark ts)
