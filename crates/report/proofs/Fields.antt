-- The words that changed, one after another.
use Rattle.std.proofs.Common.{ℕ, ◌≡◌, ◌+◌, ◌++◌, ◌∷◌, [], Option, List, length, refl, sym, ◌∙◌, append_assoc, append-nil, arith}
use mathlib.Core.Logic.{◌⊎◌, inl, inr}
use Rattle.std.specs.Io.KnownBytes.{Appends}
use Rattle.std.proofs.KnownBytes.{Appends-nil, Appends-trans}
use Rattle.report.specs.Printed.{changed_fields, word_field}

-- some fields were added to known bytes; with those of the words from the place at on they are all of them
pub record Printing (all : List ℕ) (had has : Option (List ℕ)) (at : ℕ) (words before : List ℕ) : Type 0 where
  fields : List ℕ
  put : Appends had has fields
  left : fields ++ changed_fields at words before ≡ all

pub printing-none : (s b : List ℕ) (had : Option (List ℕ)) (at : ℕ) (words before : List ℕ) → at ≡ 0 → words ≡ s → before ≡ b → Printing (changed_fields 0 s b) had had at words before
printing-none s b had at words before i e f = record { fields = []; put = Appends-nil had; left = rw (i, e, f) refl }

pub printing-more : (all : List ℕ) (had has holds : Option (List ℕ)) (at next i word old : ℕ) (words before ws bs : List ℕ) → Printing all had has at words before
    → words ≡ word ∷ ws → before ≡ old ∷ bs → i ≡ at → next ≡ at + 1 → Appends has holds (word_field i word old) → Printing all had holds next ws bs
unfolding changed_fields
printing-more all had has holds at next i word old words before ws bs p e f k n a =
    record {
      fields = p.fields ++ word_field at word old;
      put = Appends-trans had has holds p.fields (word_field at word old) p.put (rw k at a);
      left = rw n (append_assoc p.fields (word_field at word old) _ ∙ rw (e, f) at p.left);
    }

pub printing-done : (all : List ℕ) (had has : Option (List ℕ)) (at : ℕ) (words before : List ℕ) → Printing all had has at words before → (length words ≡ 0) ⊎ (length before ≡ 0) → Appends had has all
unfolding changed_fields
printing-done all had has at [] before p h = rw (sym (append-nil p.fields) ∙ p.left) at p.put
printing-done all had has at (w ∷ ws) [] p h = rw (sym (append-nil p.fields) ∙ p.left) at p.put
printing-done all had has at (w ∷ ws) (b ∷ bs) p (inl e) = absurd (omega arith)
printing-done all had has at (w ∷ ws) (b ∷ bs) p (inr e) = absurd (omega arith)
