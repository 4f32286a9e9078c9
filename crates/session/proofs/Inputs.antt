-- Reading on: nothing, a block, and one input after another.
use Rattle.std.specs.Prelude.{Ok}
use Rattle.std.proofs.Common.{ℕ, ℤ, not, ◌≡◌, ◌+◌, ◌-◌, ◌^◌, ◌<◌, ◌∙◌, refl, sym, ap, subst, Bool, true, false, cond, List, [], ◌∷◌, ◌++◌, eqb, length, take, append_assoc, append-nil, arith, Option, None, Some, IfSome}
use Rattle.std.specs.Io.KnownBytes.{Consumes, Appends, IsAtEnd}
use Rattle.std.proofs.KnownBytes.{Consumes-nil, Consumes-trans, Appends-nil, Appends-trans}
use borrow.Author.Tests.{eq-eqb}
use Rattle.model.specs.Calls.{made, make, call, describe, Does}
use Rattle.model.specs.Refusals.{number}
use Rattle.model.proofs.Refused.{grants, none_is}
use Rattle.console.specs.Answers.{newline}
use Rattle.console.specs.Sessions.{Session, kept, line_ended, byte_kept, byte_read, block_read, input_ended, session_at, drill}
use Rattle.console.proofs.Whole.{outputs, input_of, drills}
use Rattle.session.specs.Inputs.{begins, ReadOn, Answered, Loses, Turns}

-- two sessions with the same words and the same line begun, the first of which has printed x before all that the second has
record Behind (x : List ℕ) (t u : Session) : Type 0 where
  words : t.words ≡ u.words
  line : t.line ≡ u.line
  text : t.text ≡ x ++ u.text

byte_behind : (x : List ℕ) (t u : Session) (b : ℕ) (n : Bool) → Behind x t u → Behind x (cond n (line_ended t) (byte_kept t b)) (cond n (line_ended u) (byte_kept u b))
unfolding line_ended byte_kept
byte_behind x t u b true h = record { words = rw (h.words, h.line); line = refl; text = rw (h.words, h.line, h.text, append_assoc) }
byte_behind x t u b false h = record { words = h.words; line = ap (λ (l : List ℕ). kept l b) h.line; text = h.text }

read_behind : (x : List ℕ) (t u : Session) (i : List ℕ) → Behind x t u → Behind x (block_read t i) (block_read u i)
unfolding block_read byte_read
read_behind x t u [] h = h
read_behind x t u (b ∷ i) h = read_behind x (byte_read t b) (byte_read u b) i (byte_behind x t u b (eqb b newline) h)

read_both : (t : Session) (i j : List ℕ) → block_read t (i ++ j) ≡ block_read (block_read t i) j
unfolding block_read
read_both t [] j = refl
read_both t (b ∷ i) j = read_both (byte_read t b) i j

-- what an input leaves, and the next one of the session that then begins
carried : (s l s' l' : List ℕ) (a : ReadOn (begins s l) s' l') → Behind (block_read (begins s l) a.input).text (block_read (begins s l) a.input) (begins s' l')
carried s l s' l' a = record { words = sym a.words; line = sym a.line; text = sym (append-nil (block_read (begins s l) a.input).text) }

both : (s l s' l' : List ℕ) (a : ReadOn (begins s l) s' l') (j : List ℕ) → Behind (block_read (begins s l) a.input).text (block_read (begins s l) (a.input ++ j)) (block_read (begins s' l') j)
both s l s' l' a j =
    let P : Session → Type 0 = λ t. Behind (block_read (begins s l) a.input).text t (block_read (begins s' l') j) in
    subst P (sym (read_both (begins s l) a.input j)) (read_behind (block_read (begins s l) a.input).text (block_read (begins s l) a.input) (begins s' l') j (carried s l s' l' a))

-- nothing was read
pub read_none : (s l : List ℕ) → ReadOn (begins s l) s l
unfolding block_read
read_none s l = record { input = []; words = refl; line = refl }

pub answered_none : (s l : List ℕ) (had held : Option (List ℕ)) → Answered (begins s l) had had held held s l
unfolding block_read
answered_none s l had held = record { read_on = record { input = []; words = refl; line = refl }; taken = Consumes-nil had; put = Appends-nil held }

-- a block was read
abbrev pub read-block : (s l out : List ℕ) (n : ℕ) (s' l' out' : List ℕ) (k p : ℕ) (block : List ℕ) → session_at s' l' k out' p ≡ block_read (session_at s l n out 0) block
    → ReadOn (begins s (take n l)) s' (take k l')
read-block s l out n s' l' out' k p block e = record { input = block; words = ap (λ (t : Session). t.words) e; line = ap (λ (t : Session). t.line) e }

-- and its answers were written
pub answered_block : (s l : List ℕ) (n : ℕ) (s' l' out' : List ℕ) (k p : ℕ) (block took put : List ℕ) (had has held holds : Option (List ℕ))
    → session_at s' l' k out' p ≡ block_read (begins s (take n l)) block → Consumes had has took → took ≡ block → Appends held holds put → put ≡ take p out'
    → Answered (begins s (take n l)) had has held holds s' (take k l')
answered_block s l n s' l' out' k p block took put had has held holds e c u a v =
    record {
      read_on = read-block s l [] n s' l' out' k p block e;
      taken = subst (Consumes had has) u c;
      put = subst (Appends held holds) (v ∙ ap (λ (t : Session). t.text) e) a;
    }

-- nothing was left to read
pub answered_end : (s l block : List ℕ) (n : ℕ) (had has held : Option (List ℕ)) → n ≡ 0 → Consumes had has (take n block) → Answered (begins s l) had has held held s l
unfolding block_read
answered_end s l block n had has held e c =
    let P : ℕ → Type 0 = λ m. Consumes had has (take m block) in
    record { read_on = record { input = []; words = refl; line = refl }; taken = subst P e c; put = Appends-nil held }

-- some bytes, and then others
pub read_more : (s l s' l' s'' l'' : List ℕ) → ReadOn (begins s l) s' l' → ReadOn (begins s' l') s'' l'' → ReadOn (begins s l) s'' l''
read_more s l s' l' s'' l'' a b =
    let h = both s l s' l' a b.input in
    record { input = a.input ++ b.input; words = b.words ∙ sym h.words; line = b.line ∙ sym h.line }

pub answered_more : (s l s' l' s'' l'' : List ℕ) (r r' r'' w w' w'' : Option (List ℕ)) → Answered (begins s l) r r' w w' s' l' → Answered (begins s' l') r' r'' w' w'' s'' l'' → Answered (begins s l) r r'' w w'' s'' l''
answered_more s l s' l' s'' l'' r r' r'' w w' w'' a b =
    let h = both s l s' l' a.read_on b.read_on.input in
    record {
      read_on = record { input = a.read_on.input ++ b.read_on.input; words = b.read_on.words ∙ sym h.words; line = b.read_on.line ∙ sym h.line };
      taken = Consumes-trans r r' r'' _ _ a.taken b.taken;
      put = subst (Appends w w'') (sym h.text) (Appends-trans w w' w'' _ _ a.put b.put);
    }

-- ---- how many known bytes are left

pub loses_none : (r : Option (List ℕ)) → Loses r r 0
loses_none None = tt
loses_none (Some xs) = omega arith

pub loses_more : (r r' r'' : Option (List ℕ)) (n : ℕ) (block : List ℕ) → Consumes r r' block → Loses r r' n → Loses r' r'' 1 → Loses r r'' (n + 1)
loses_more None r' r'' n block c a b = tt
loses_more (Some xs) None r'' n block c a b = absurd c
loses_more (Some xs) (Some ys) None n block c a b = tt
loses_more (Some xs) (Some ys) (Some zs) n block c a b = omega arith

pub goes_on : (b : Bool) (r r' : Option (List ℕ)) → not b ≡ false → Turns b r r' → Loses r r' 1
goes_on true r r' e h = h
goes_on false r r' e h = absurd (cc)

-- ---- a whole session

-- what was printed for an input, and then for a last line that lacks its end
whole : (i s l : List ℕ) → s ≡ (block_read (begins made []) i).words → l ≡ (block_read (begins made []) i).line
    → (block_read (begins made []) i).text ++ (input_ended (begins s l)).text ≡ drill i
unfolding outputs input_of
whole i s l p q = rw (p, q) (drills (i ∷ []) ∙ ap drill (append-nil i))

-- a device just made
made_is : (s : List ℕ) → length s ≡ 1760 → Does (call make s) (number (Ok 0)) made []
unfolding describe
made_is s h = search (grants, none_is, eq-eqb)

pub made_state : (s t : List ℕ) (r : ℤ) → length s ≡ 1760 → Does (call make s) r t [] → t ≡ made
made_state s t r h d = d.state ∙ sym (made_is s h).state

pub session_answers : (m : List ℕ) (r r' w w' w'' : Option (List ℕ)) (s l out put : List ℕ) → m ≡ made → Answered (begins m []) r r' w w' s l → IfSome r (λ input. length input < 2 ^ 64 - 1 → IsAtEnd r')
    → out ≡ (input_ended (begins s l)).text → Appends w' w'' put → put ≡ out → IfSome r (λ input. length input < 2 ^ 64 - 1 → Appends w w'' (drill input))
session_answers m None r' w w' w'' s l out put d a e o p q = tt
session_answers m (Some xs) None w w' w'' s l out put d a e o p q = absurd a.taken
session_answers m (Some xs) (Some ys) w w' w'' s l out put d a e o p q = λ h.
    let b : Answered (begins made []) (Some xs) (Some ys) w w' s l = rw d at a in
    let i : List ℕ = b.read_on.input in
    let all : xs ≡ i = b.taken ∙ ap (λ (t : List ℕ). i ++ t) (e h) ∙ append-nil i in
    let text : (block_read (begins made []) i).text ++ put ≡ drill xs = ap (λ (t : List ℕ). (block_read (begins made []) i).text ++ t) (q ∙ o) ∙ whole i s l b.read_on.words b.read_on.line ∙ ap drill (sym all) in
    subst (Appends w w'') text (Appends-trans w w' w'' _ _ b.put p)
