-- What restore reads into its target leaves the core of a stopped device of the target's set-up, whatever the record.
use Prim.Native.Nat.{ℕ}
use mathlib.Core.Path.{◌≡◌, refl, subst}
use mathlib.Core.Bool.{Bool, true, false}
use mathlib.Core.List.{List, [], ◌∷◌}
use native.Mathlib.Omega.{arith}
use Rattle.model.specs.Record.{Number, decoded, broken, decode_number, Entry, header, attribute_of, entries, readable, entry_put, Loaded, done, fault, taking, load, restored, loaded_state}
use Rattle.model.specs.Demands.{Stopped}
use Rattle.model.specs.declared.Errno.TheVariants.{Einval}
use Rattle.model.proofs.Soundness.{Sound, open-sound, stopped-ready, ready-is-sound, stopped-resting}
use Rattle.model.proofs.Recorded.{All, Good, good-entries}
use Rattle.model.proofs.ReadsBack.{RestingLike, like-itself, put-like}

module _ (t : List ℕ) where
  -- one entry: a number of the header changes nothing, a listed attribute is put
  entry-like : (e : Entry) (s : List ℕ) (v : ℕ) → Good t e → RestingLike t s → RestingLike t (entry_put s e v)
  unfolding entry_put
  entry-like (header x) s v g h = h
  entry-like (attribute_of a) s v g h = put-like t s h g v

  -- entries of the target, read from any bytes
  pub load-like : (es : List Entry) (bytes s u : List ℕ) → All (Good t) es → RestingLike t s → load t es bytes s ≡ done u → RestingLike t u
  unfolding load taking
  load-like [] [] s u g h q = let e : s ≡ u = cc in subst (RestingLike t) e h
  load-like [] (b ∷ bytes) s u g h q = let z : ◌≡◌ {A = ℕ} 0 1 = cc in absurd (omega arith)
  load-like (e ∷ es) bytes s u g h q = number (decode_number bytes) (λ r w. load-like es r w u g.1) q
    where
      number : (n : Number) → ((r w : List ℕ) → RestingLike t w → load t es r w ≡ done u → RestingLike t u)
          → taking n (λ v r. elim (readable t e v) [ true ↦ load t es r (entry_put s e v) | false ↦ fault Einval ]) ≡ done u → RestingLike t u
      number broken ih k = let z : ◌≡◌ {A = ℕ} 0 1 = cc in absurd (omega arith)
      number (decoded v r) ih k = value (readable t e v) k
        where
          value : (b : Bool) → elim b [ true ↦ load t es r (entry_put s e v) | false ↦ fault Einval ] ≡ done u → RestingLike t u
          value true k = ih r (entry_put s e v) (entry-like e s v g.0 h) k
          value false k = let z : ◌≡◌ {A = ℕ} 0 1 = cc in absurd (omega arith)

  module _ (h : Stopped t) (bytes : List ℕ) where
    pub restored-like : (u : List ℕ) → restored t bytes ≡ done u → RestingLike t u
    unfolding restored
    restored-like u e = load-like (entries t) bytes t u (good-entries t (stopped-ready t h)) (like-itself t (stopped-resting t h)) e

    -- where the record is faulted, the target stays
    pub loaded-sound : Sound (loaded_state t (restored t bytes))
    unfolding loaded_state
    loaded-sound = step (restored t bytes) refl
      where
        step : (l : Loaded) → restored t bytes ≡ l → Sound (loaded_state t l)
        step (done u) e = ready-is-sound u (restored-like u e).resting.is_ready
        step (fault n) e = open-sound t h.is_sound
