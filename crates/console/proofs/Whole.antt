-- What is printed for an input is what `drill` says of it, however it is cut into blocks.
use Prim.Native.Nat.{ℕ, suc, ◌<◌, ◌≤◌, min}
use mathlib.Core.Path.{◌≡◌, refl, sym, ap, ◌∙◌}
use mathlib.Core.Bool.{Bool, true, false, cond}
use mathlib.Core.List.{List, [], ◌∷◌, ◌++◌, append-nil, append_assoc}
use native.Mathlib.Omega.{arith}
use borrow.Author.Tests.{leb-true, leb-false, ltb-true, ltb-false, lt-leb}
use lib.Dec.{eqb, ltb, leb, eqb-suc-zero}
use lib.ListN.{length, take, length-take, length-append}
use lib.Seq.{take_all, take-append-le}
use Rattle.model.specs.Calls.{made}
use Rattle.console.specs.Text.{joined, parsed}
use Rattle.console.specs.Answers.{newline}
use Rattle.console.specs.Sessions.{printed, left, lines, answers, drill, Session, kept, line_ended, byte_kept, byte_read, block_read, input_ended}

-- ---- 81 bytes of a line tell what it is

parsed-by : (t : Bool) (l : List ℕ) → leb (length l) 80 ≡ t → parsed (take 81 l) ≡ parsed l
unfolding parsed
parsed-by true l e = rw (take_all 81 l (omega (arith, leb-true (length l) 80 e)))
parsed-by false l e = rw (e, length-take, lt-leb (min 81 (length l)) 80 (omega (arith, leb-false (length l) 80 e)))

parsed-cut : (l : List ℕ) → parsed (take 81 l) ≡ parsed l
parsed-cut l = parsed-by (leb (length l) 80) l refl

kept_by : (t : Bool) (f : List ℕ) (b : ℕ) → ltb (length (take 81 f)) 81 ≡ t → kept (take 81 f) b ≡ take 81 (f ++ (b ∷ []))
unfolding kept
kept_by true f b e =
    let h : length f < 81 = omega (arith, ltb-true (min 81 (length f)) 81 (rw length-take at e)) in
    rw (e, take_all 81 f (omega arith), take_all 81 (f ++ (b ∷ [])) (rw length-append (omega arith)))
kept_by false f b e =
    let h : 81 ≤ length f = omega (arith, ltb-false (min 81 (length f)) 81 (rw length-take at e)) in
    rw (e, take-append-le 81 f (b ∷ []) h)

kept-cut : (f : List ℕ) (b : ℕ) → kept (take 81 f) b ≡ take 81 (f ++ (b ∷ []))
kept-cut f b = kept_by (ltb (length (take 81 f)) 81) f b refl

-- ---- the lines of an input, of whose first line f is read already

unfoldable lines_from : List ℕ → List ℕ → List (List ℕ)
lines_from f [] = cond (eqb (length f) 0) [] (f ∷ [])
lines_from f (b ∷ bs) = cond (eqb b newline) (f ∷ lines_from [] bs) (lines_from (f ++ (b ∷ [])) bs)

unfoldable before : List ℕ → List (List ℕ) → List (List ℕ)
before [] ls = ls
before (b ∷ f) ls = joined b (before f ls)

before-line : (f l : List ℕ) (ls : List (List ℕ)) → before f (l ∷ ls) ≡ (f ++ l) ∷ ls
unfolding before joined
before-line [] l ls = refl
before-line (b ∷ f) l ls = rw (before-line f l ls)

before-none : (f : List ℕ) → before f [] ≡ cond (eqb (length f) 0) [] (f ∷ [])
unfolding before joined
before-none [] = refl
before-none (b ∷ []) = refl
before-none (b ∷ c ∷ f) = rw (before-none (c ∷ f), eqb-suc-zero (length f), eqb-suc-zero (suc (length f)))

before-byte : (f : List ℕ) (b : ℕ) (ls : List (List ℕ)) → before f (joined b ls) ≡ before (f ++ (b ∷ [])) ls
unfolding before
before-byte [] b ls = refl
before-byte (c ∷ f) b ls = rw (before-byte f b ls)

lines-by : (t : Bool) (f : List ℕ) (b : ℕ) (bs : List ℕ) → eqb b newline ≡ t → lines_from [] bs ≡ lines bs → lines_from (f ++ (b ∷ [])) bs ≡ before (f ++ (b ∷ [])) (lines bs)
    → lines_from f (b ∷ bs) ≡ before f (lines (b ∷ bs))
unfolding lines_from lines
lines-by true f b bs e p q = rw (e, before-line f [] (lines bs), append-nil, p)
lines-by false f b bs e p q = rw (e, before-byte f b (lines bs), q)

lines-from : (input f : List ℕ) → lines_from f input ≡ before f (lines input)
unfolding lines_from lines before
lines-from [] f = sym (before-none f)
lines-from (b ∷ bs) f = lines-by (eqb b newline) f b bs refl (lines-from bs []) (lines-from bs (f ++ (b ∷ [])))

-- ---- a whole input, byte after byte

abbrev session : List ℕ → List ℕ → List ℕ → Session
session s l x = record { words = s; line = l; text = x }

ended : (f s x : List ℕ) → (input_ended (session s (take 81 f) x)).text ≡ x ++ answers (lines_from f []) s
unfolding input_ended line_ended lines_from answers
ended [] s x = rw append-nil
ended (b ∷ f) s x = rw (eqb-suc-zero (length (take 80 f)), eqb-suc-zero (length f), parsed-cut (b ∷ f), append-nil)

step_by : (t : Bool) (f s x : List ℕ) (b : ℕ) (bs : List ℕ) → eqb b newline ≡ t
    → (input_ended (block_read (session (left (parsed f) s) [] (x ++ printed (parsed f) s)) bs)).text ≡ (x ++ printed (parsed f) s) ++ answers (lines_from [] bs) (left (parsed f) s)
    → (input_ended (block_read (session s (take 81 (f ++ (b ∷ []))) x) bs)).text ≡ x ++ answers (lines_from (f ++ (b ∷ [])) bs) s
    → (input_ended (block_read (session s (take 81 f) x) (b ∷ bs))).text ≡ x ++ answers (lines_from f (b ∷ bs)) s
unfolding block_read byte_read line_ended byte_kept lines_from answers
step_by true f s x b bs e p q = rw (e, parsed-cut f) (p ∙ append_assoc x (printed (parsed f) s) (answers (lines_from [] bs) (left (parsed f) s)))
step_by false f s x b bs e p q = rw (e, kept-cut f b) q

whole-input : (input f s x : List ℕ) → (input_ended (block_read (session s (take 81 f) x) input)).text ≡ x ++ answers (lines_from f input) s
unfolding block_read
whole-input [] f s x = ended f s x
whole-input (b ∷ bs) f s x =
    step_by (eqb b newline) f s x b bs refl (whole-input bs [] (left (parsed f) s) (x ++ printed (parsed f) s)) (whole-input bs (f ++ (b ∷ [])) s x)

-- ---- block after block, each printed by itself

-- the text of the blocks, from the words s, where l is kept of the line joined
unfoldable pub outputs : List (List ℕ) → List ℕ → List ℕ → List ℕ
outputs [] s l = (input_ended (session s l [])).text
outputs (b ∷ bs) s l = let t = block_read (session s l []) b in t.text ++ outputs bs t.words t.line

-- the input that they are cut from
unfoldable pub input_of : List (List ℕ) → List ℕ
input_of [] = []
input_of (b ∷ bs) = b ++ input_of bs

parted : (a b : List ℕ) (t : Session) → block_read t (a ++ b) ≡ block_read (block_read t a) b
unfolding block_read
parted [] b t = refl
parted (c ∷ a) b t = parted a b (byte_read t c)

-- what is printed before stays in front
behind : List ℕ → Session → Session
behind x t = session t.words t.line (x ++ t.text)

byte-behind : (t : Bool) (b : ℕ) (s l x y : List ℕ) → eqb b newline ≡ t → byte_read (session s l (x ++ y)) b ≡ behind x (byte_read (session s l y) b)
unfolding byte_read line_ended byte_kept behind
byte-behind true b s l x y e = rw (e, append_assoc)
byte-behind false b s l x y e = rw e

block-behind : (bs s l x y : List ℕ) → block_read (session s l (x ++ y)) bs ≡ behind x (block_read (session s l y) bs)
unfolding block_read behind
block-behind [] s l x y = refl
block-behind (b ∷ bs) s l x y =
    let t = byte_read (session s l y) b in
    ap (λ u. block_read u bs) (byte-behind (eqb b newline) b s l x y refl) ∙ block-behind bs t.words t.line x t.text

last-behind : (s l x : List ℕ) → x ++ (input_ended (session s l [])).text ≡ (input_ended (session s l x)).text
unfolding input_ended line_ended
last-behind s [] x = append-nil x
last-behind s (b ∷ l) x = rw (eqb-suc-zero (length l))

blocks-behind : (bs : List (List ℕ)) (s l x : List ℕ) → x ++ outputs bs s l ≡ (input_ended (block_read (session s l x) (input_of bs))).text
unfolding outputs input_of block_read
blocks-behind [] s l x = last-behind s l x
blocks-behind (b ∷ bs) s l x =
    let t = block_read (session s l []) b in
    let e : block_read (session s l x) b ≡ session t.words t.line (x ++ t.text) = unfold behind in (rw append-nil at (block-behind b s l x [])) in
    sym (append_assoc x t.text (outputs bs t.words t.line)) ∙ blocks-behind bs t.words t.line (x ++ t.text) ∙ rw (parted b (input_of bs) (session s l x), e)

-- a device is made, and the input is read in blocks
pub drills : (blocks : List (List ℕ)) → outputs blocks made [] ≡ drill (input_of blocks)
unfolding drill before
drills blocks = blocks-behind blocks made [] [] ∙ whole-input (input_of blocks) [] made [] ∙ rw (lines-from (input_of blocks) [])
