-- How many values a record has: 5 + 23n + 15w + s, with n vCPUs, w SPI words and s SPIs; 75 at the least and 1,642 at the most.
use Prim.Native.Nat.{ℕ, zero, suc, ◌+◌, ◌*◌, ◌≤◌}
use mathlib.Core.Path.{◌≡◌, refl, sym}
use mathlib.Core.List.{List, [], ◌∷◌}
use native.Mathlib.Nat.{mul-zero, mul-suc}
use native.Mathlib.Omega.{arith}
use lib.ListN.{length, length-append, length-map}
use Rattle.model.specs.Words.{each}
use Rattle.model.specs.Layout.{count, vcpus, affinity}
use Rattle.model.specs.Record.{spi_words, spis, of_spi_word, of_route, of_vcpu_block, listed, header, entries}
use Rattle.model.proofs.Soundness.{Ready}

length-each {ℓ} : {A : Type ℓ} (f : ℕ → List A) (m : ℕ) → ((b : ℕ) → length (f b) ≡ m) → (b k : ℕ) → length (each f b k) ≡ m * k
unfolding each
length-each f m size b zero = sym (mul-zero m)
length-each f m size b (suc k) = rw (length-append, size b, length-each f m size (suc b) k, mul-suc) (omega arith)

spi-word-size : (w : ℕ) → length (of_spi_word w) ≡ 15
unfolding of_spi_word each
spi-word-size w = refl

route-size : (id : ℕ) → length (of_route id) ≡ 1
unfolding of_route
route-size id = refl

vcpu-size : (s : List ℕ) (v : ℕ) → length (of_vcpu_block s v) ≡ 22
unfolding of_vcpu_block each
vcpu-size s v = refl

pub values : (s : List ℕ) → length (entries s) ≡ 5 + 23 * vcpus s + 15 * spi_words (count s) + spis (count s)
unfolding entries listed
values s =
    rw (
      length-append,
      length-each (λ v. header (affinity s v) ∷ []) 1 (λ v. refl) 0 (vcpus s),
      length-map,
      length-append,
      length-append,
      length-each of_spi_word 15 spi-word-size 1 (spi_words (count s)),
      length-each of_route 1 route-size 32 (spis (count s)),
      length-each (of_vcpu_block s) 22 (vcpu-size s) 0 (vcpus s),
    )
    (omega arith)

pub fewest-and-most : (s : List ℕ) → Ready s → (75 ≤ length (entries s)) × (length (entries s) ≤ 1642)
fewest-and-most s h =
    let e = values s in
    (omega (arith, h.some, h.counted.least), omega (arith, h.few, h.counted.most))
