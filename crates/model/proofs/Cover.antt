-- The places of the listed attributes cover every word that may differ between two sound, stopped devices of equal set-up: the listed values decide the state.
use Rattle.std.specs.Prelude.{Option}
use Prim.Native.Nat.{ℕ, zero, suc, ◌+◌, ◌*◌, ◌-◌, ◌/◌, ◌%◌, ◌^◌, ◌≤◌, ◌<◌}
use mathlib.Core.Path.{◌≡◌, refl, sym, ap, ◌∙◌, subst}
use mathlib.Core.Bool.{false}
use mathlib.Core.List.{List, Memᴰ}
use mathlib.Core.Logic.{◌⊎◌, inl, inr, ⊎_elim}
use native.Mathlib.Decide.{ℕ_discrete, dec_lt}
use native.Mathlib.Omega.{arith}
use borrow.Author.Tests.{lt-ltb, le-ltb}
use lib.Dec.{ltb}
use lib.ListN.{get_or, get_or-eq_default}
use Rattle.model.specs.Words.{spread}
use Rattle.model.specs.Layout.{state_length, word, count, vcpus, block, running, route_at, sgi_edges_at, affinity_at, running_at}
use Rattle.model.specs.Sound.{used_bits, entry, header_bits, block_bits, bank_bits, last_bank_bits}
use Rattle.model.specs.Attributes.{Attribute, attr, item_of, item_read}
use Rattle.model.specs.Record.{listed, of_vcpu}
use Rattle.model.specs.declared.Item.{Item}
use Rattle.model.specs.Demands.{Stopped, Alike}
use Rattle.model.proofs.Within.{fits_lt, fits_le, fits-none}
use Rattle.model.proofs.Soundness.{stopped-ready, Ready, stopped-running, open-vcpu}
use Rattle.model.proofs.Bits.{gather-lt}
use Rattle.model.proofs.Masks.{entry-there, entry_absent, header-bits, block-bits, bank-bits, last-bits, route-none, SpiWord, header-word, block-word, bank-is}
use Rattle.model.proofs.Listed.{Kept, groups, enables, latches, actives, offset_of, Stored, pmr, ctlr, ap0r, ap1r, igrpen0, igrpen1, encoding_of, Listed, control, status, spi-flags, spi-lines, spi-priority, spi-config, spi-route, vcpu-status, vcpu-flags, vcpu-lines, vcpu-priority, vcpu-system, member, bpr0, bpr1}
use Rattle.model.proofs.Places.{field_of, stored_at, field-small, stored-small, place_of, Shape, itself, shown, shape_of, room_of, shown-once, named_by, reads-place}
use Rattle.model.proofs.Roles.{header-role, listed-bank, listed-block, listed-route}
use Rattle.model.proofs.Derived.{core-decides}
use Rattle.model.specs.Roles.{role_in, role_of, is_derived}
use Rattle.model.specs.Roles as role

-- ---- a word is a listed attribute's, or alike in both devices

unfoldable pub Owned : (s t : List ℕ) → ℕ → Type 0
Owned s t p = ((a : Attribute) × (l : Listed s a) × (place_of l ≡ p)) ⊎ (word t p ≡ word s p)

module _ (s t : List ℕ) (hs : Ready s) (ht : Ready t) (same : Alike s t) (rest : (v : ℕ) → v < vcpus s → running t v ≡ running s v) where
  owned : (p : ℕ) {a : Attribute} (l : Listed s a) → place_of l ≡ p → Owned s t p
  unfolding Owned
  owned p {a} l e = inl (a, l, e)

  alike : (p : ℕ) → word t p ≡ word s p → Owned s t p
  unfolding Owned
  alike p e = inr e

  -- no bit may stand there in either
  zero_word : (p : ℕ) → p < state_length → used_bits (count s) (vcpus s) p ≡ 0 → Owned s t p
  zero_word p l e =
      let f : used_bits (count t) (vcpus t) p ≡ 0 = rw (same.same_count, same.same_number) e in
      let a : word s p ≡ 0 = fits-none (word s p) (rw e at (hs.used p l)) in
      let b : word t p ≡ 0 = fits-none (word t p) (rw f at (ht.used p l)) in
      alike p (b ∙ sym a)

  at : {p q : ℕ} → p ≡ q → Owned s t p → Owned s t q
  at e o = rw (← e) o

  -- ---- a vCPU's block

  kept_at : (j : ℕ) → j < 4 → (k : Kept) × (field_of k ≡ j)
  kept_at zero l = (groups, refl)
  kept_at (suc zero) l = (enables, refl)
  kept_at (suc (suc zero)) l = (latches, refl)
  kept_at (suc (suc (suc zero))) l = (actives, refl)
  kept_at (suc (suc (suc (suc j)))) l = absurd (omega arith)

  stored-at : (j : ℕ) → j < 8 → (k : Stored) × (stored_at k ≡ 19 + j)
  stored-at zero l = (pmr, refl)
  stored-at (suc zero) l = (ctlr, refl)
  stored-at (suc (suc zero)) l = (bpr0, refl)
  stored-at (suc (suc (suc zero))) l = (bpr1, refl)
  stored-at (suc (suc (suc (suc zero)))) l = (ap0r, refl)
  stored-at (suc (suc (suc (suc (suc zero))))) l = (ap1r, refl)
  stored-at (suc (suc (suc (suc (suc (suc zero)))))) l = (igrpen0, refl)
  stored-at (suc (suc (suc (suc (suc (suc (suc zero))))))) l = (igrpen1, refl)
  stored-at (suc (suc (suc (suc (suc (suc (suc (suc j)))))))) l = absurd (omega arith)

  -- what no table entry allows
  block-zero : (v j : ℕ) → v < vcpus s → j < 32 → get_or block_bits j 0 ≡ 0 → Owned s t (block v + j)
  block-zero v j l m e =
      zero_word (block v + j) (omega (arith, hs.few))
      (block-bits (count s) (vcpus s) v j (omega (arith, hs.few)) m ∙ entry-there (ltb v (vcpus s)) block_bits j (lt-ltb v (vcpus s) l) ∙ e)

  -- from word 13 on
  middle : (v j : ℕ) → v < vcpus s → 13 ≤ j → j < 19 → Owned s t (block v + j)
  middle v j l a b = go (ℕ_discrete j 13) (ℕ_discrete j 14) (ℕ_discrete j 15) (ℕ_discrete j 16) (ℕ_discrete j 17)
    where
      lt : v < vcpus t
      lt = rw same.same_number l

      go : Dec (j ≡ 13) → Dec (j ≡ 14) → Dec (j ≡ 15) → Dec (j ≡ 16) → Dec (j ≡ 17) → Owned s t (block v + j)
      go (yes e) d14 d15 d16 d17 = rw e (alike (sgi_edges_at v) ((open-vcpu t v (ht.each_vcpu v lt)).edges ∙ sym (open-vcpu s v (hs.each_vcpu v l)).edges))
      go (no n13) (yes e) d15 d16 d17 = rw e (block-zero v 14 l (omega arith) refl)
      go (no n13) (no n14) (yes e) d16 d17 = rw e (block-zero v 15 l (omega arith) refl)
      go (no n13) (no n14) (no n15) (yes e) d17 = rw e (alike (affinity_at v) (same.same_affinities v l))
      go (no n13) (no n14) (no n15) (no n16) (yes e) = rw e (alike (running_at v) (rest v l))
      go (no n13) (no n14) (no n15) (no n16) (no n17) =
          let e : j ≡ 18 = omega arith in
          rw e (owned (block v + 18) (vcpu-status v l) refl)

  in_block : (v j : ℕ) → v < vcpus s → j < 32 → Owned s t (block v + j)
  in_block v j l m = go (dec_lt j 4) (ℕ_discrete j 4) (dec_lt j 13) (dec_lt j 19) (dec_lt j 27)
    where
      go : Dec (j < 4) → Dec (j ≡ 4) → Dec (j < 13) → Dec (j < 19) → Dec (j < 27) → Owned s t (block v + j)
      go (yes a) d4 d13 d19 d27 = let k = kept_at j a in owned (block v + j) (vcpu-flags v k.0 l) (ap (λ (x : ℕ). block v + x) k.1)
      go (no a) (yes e) d13 d19 d27 = rw e (owned (block v + 4) (vcpu-lines v l) refl)
      go (no a) (no n) (yes b) d19 d27 = owned (block v + j) (vcpu-priority v (j - 5) l (omega arith)) (omega arith)
      go (no a) (no n) (no b) (yes c) d27 = middle v j l (omega arith) c
      go (no a) (no n) (no b) (no c) (yes d) =
          let k = stored-at (j - 19) (omega arith) in
          let e : 19 + (j - 19) ≡ j = omega arith in
          owned (block v + j) (vcpu-system v k.0 l) (ap (λ (x : ℕ). block v + x) (k.1 ∙ e))
      go (no a) (no n) (no b) (no c) (no d) = block-zero v j l m (get_or-eq_default block_bits 0 {n = j} (omega arith))

  -- ---- an SPI bank

  used-bank : (w j : ℕ) → SpiWord s w → j < 15 → Owned s t (256 + 16 * w + j)
  used-bank w j q m = go (dec_lt j 4) (ℕ_discrete j 4) (dec_lt j 13)
    where
      go : Dec (j < 4) → Dec (j ≡ 4) → Dec (j < 13) → Owned s t (256 + 16 * w + j)
      go (yes a) d4 d13 = let k = kept_at j a in owned (256 + 16 * w + j) (spi-flags w k.0 q) (ap (λ (x : ℕ). 256 + 16 * w + x) k.1)
      go (no a) (yes e) d13 = rw e (owned (256 + 16 * w + 4) (spi-lines w q) refl)
      go (no a) (no n) (yes b) = owned (256 + 16 * w + j) (spi-priority w (j - 5) q (omega arith)) (omega arith)
      go (no a) (no n) (no b) = owned (256 + 16 * w + j) (spi-config w (j - 13) q (omega arith)) (omega arith)

  -- word 15 of a bank, and every word of a bank that is not there
  bank-zero : (w j : ℕ) → 1 ≤ w → w < 32 → j < 16 → (32 * w < count s → j ≡ 15) → Owned s t (256 + 16 * w + j)
  bank-zero w j a b m e = zero_word (256 + 16 * w + j) (omega arith) (go (dec_lt w 31))
    where
      bits : (c : ℕ) → c ≡ 32 * w → (d : Dec (c < count s)) → entry (ltb c (count s)) bank_bits j ≡ 0
      bits c f (yes q) = let g : j ≡ 15 = e (omega arith) in entry-there (ltb c (count s)) bank_bits j (lt-ltb c (count s) q) ∙ rw g
      bits c f (no q) = entry_absent (ltb c (count s)) bank_bits j (le-ltb c (count s) (omega arith))

      last : (c : ℕ) → c ≡ 32 * w → (d : Dec (c < count s)) → entry (ltb c (count s)) last_bank_bits j ≡ 0
      last c f (yes q) = let g : j ≡ 15 = e (omega arith) in entry-there (ltb c (count s)) last_bank_bits j (lt-ltb c (count s) q) ∙ rw g
      last c f (no q) = entry_absent (ltb c (count s)) last_bank_bits j (le-ltb c (count s) (omega arith))

      go : Dec (w < 31) → used_bits (count s) (vcpus s) (256 + 16 * w + j) ≡ 0
      go (yes q) = bank-bits (count s) (vcpus s) w j a q m ∙ bits (32 * w) refl (dec_lt (32 * w) (count s))
      go (no q) =
          let f : 256 + 16 * w + j ≡ 752 + j = omega arith in
          rw f (last-bits (count s) (vcpus s) j m ∙ last 992 (omega arith) (dec_lt 992 (count s)))

  in-bank : (w j : ℕ) → 1 ≤ w → w < 32 → j < 16 → Owned s t (256 + 16 * w + j)
  in-bank w j a b m = go (dec_lt (32 * w) (count s)) (dec_lt j 15)
    where
      go : Dec (32 * w < count s) → Dec (j < 15) → Owned s t (256 + 16 * w + j)
      go (yes q) (yes r) = used-bank w j (record { low = a; high = omega (arith, hs.counted.step) }) r
      go (yes q) (no r) = bank-zero w j a b m (λ z. omega arith)
      go (no q) r = bank-zero w j a b m (λ z. absurd (omega arith))

  -- ---- the first words, and the routes

  in-header : (p : ℕ) → p < 16 → Owned s t p
  in-header p l = go (ℕ_discrete p 0) (ℕ_discrete p 1) (ℕ_discrete p 2) (ℕ_discrete p 3) (ℕ_discrete p 4)
    where
      go : Dec (p ≡ 0) → Dec (p ≡ 1) → Dec (p ≡ 2) → Dec (p ≡ 3) → Dec (p ≡ 4) → Owned s t p
      go (yes e) d1 d2 d3 d4 = rw e (alike 0 (ht.mark ∙ sym hs.mark))
      go (no n0) (yes e) d2 d3 d4 = rw e (alike 1 same.same_count)
      go (no n0) (no n1) (yes e) d3 d4 = rw e (alike 2 same.same_number)
      go (no n0) (no n1) (no n2) (yes e) d4 = rw e (owned 3 control refl)
      go (no n0) (no n1) (no n2) (no n3) (yes e) = rw e (owned 4 status refl)
      go (no n0) (no n1) (no n2) (no n3) (no n4) =
          zero_word p (omega arith) (header-bits (count s) (vcpus s) p l ∙ get_or-eq_default header_bits 0 {n = p} (omega arith))

  in-routes : (p : ℕ) → 768 ≤ p → p < 1760 → Owned s t p
  in-routes p l m = go (dec_lt p 1756) (dec_lt (p - 736) (count s))
    where
      go : Dec (p < 1756) → Dec (p - 736 < count s) → Owned s t p
      go (yes a) (yes b) = owned p (spi-route (p - 736) (omega arith) (omega arith)) (omega arith)
      go (yes a) (no b) = zero_word p (omega arith) (route-none (count s) (vcpus s) p l (λ z. omega arith))
      go (no a) b = zero_word p (omega arith) (route-none (count s) (vcpus s) p l (λ z. absurd (omega arith)))

  -- of every word that is not derived
  pub each_owned : (p : ℕ) → p < 1760 → is_derived (role_of p) ≡ false → Owned s t p
  each_owned p l core = go (dec_lt p 16) (dec_lt p 272) (dec_lt p 768) (dec_lt ((p - 16) / 32) (vcpus s))
    where
      go : Dec (p < 16) → Dec (p < 272) → Dec (p < 768) → Dec ((p - 16) / 32 < vcpus s) → Owned s t p
      go (yes a) d2 d3 d4 = in-header p a
      go (no a) (yes b) d3 (yes c) = at (omega arith) (in_block ((p - 16) / 32) ((p - 16) % 32) c (omega arith))
      go (no a) (yes b) d3 (no c) =
          let e : block ((p - 16) / 32) + (p - 16) % 32 ≡ p = omega arith in
          zero_word p (omega arith) (rw (← e) (block-bits (count s) (vcpus s) ((p - 16) / 32) ((p - 16) % 32) (omega arith) (omega arith)
          ∙ entry_absent (ltb ((p - 16) / 32) (vcpus s)) block_bits ((p - 16) % 32) (le-ltb ((p - 16) / 32) (vcpus s) (omega arith))))
      go (no a) (no b) (yes c) d4 = at (omega arith) (in-bank ((p - 256) / 16) ((p - 256) % 16) (omega arith) (omega arith) (omega arith))
      go (no a) (no b) (no c) d4 = in-routes p (omega arith) l

-- ---- the listed values decide the state

-- the word at p is one that the shape k shows once, as a number of 32 bits
pub record Shows (s : List ℕ) (k : Shape) (p : ℕ) : Type 0 where
  pub room : word s p < room_of k
  pub small : shown k (word s p) < 2 ^ 32

module _ (s : List ℕ) (h : Ready s) where
  -- a listed attribute's word has that role
  pub place-listed : {a : Attribute} (l : Listed s a) → role_of (place_of l) ≡ role.listed
  place-listed control = header-role 3 (omega arith) ∙ unfold role_in in refl
  place-listed status = header-role 4 (omega arith) ∙ unfold role_in in refl
  place-listed (spi-flags w k q) = listed-bank w (field_of k) q.low (omega (arith, q.high, h.counted.most)) (omega (arith, field-small k))
  place-listed (spi-lines w q) = listed-bank w 4 q.low (omega (arith, q.high, h.counted.most)) (omega arith)
  place-listed (spi-priority w j q l) = listed-bank w (5 + j) q.low (omega (arith, q.high, h.counted.most)) (omega arith)
  place-listed (spi-config w j q l) = listed-bank w (13 + j) q.low (omega (arith, q.high, h.counted.most)) (omega arith)
  place-listed (spi-route id l m) = listed-route (route_at id) (omega arith) (omega arith)
  place-listed (vcpu-status v l) = listed-block v 18 (omega (arith, h.few)) (inr (omega arith))
  place-listed (vcpu-flags v k l) = listed-block v (field_of k) (omega (arith, h.few)) (inl (omega (arith, field-small k)))
  place-listed (vcpu-lines v l) = listed-block v 4 (omega (arith, h.few)) (inl (omega arith))
  place-listed (vcpu-priority v j l m) = listed-block v (5 + j) (omega (arith, h.few)) (inl (omega arith))
  place-listed (vcpu-system v p l) = listed-block v (stored_at p) (omega (arith, h.few)) (inr (omega (arith, stored-small p)))

  -- so it is not derived
  pub place-core : {a : Attribute} (l : Listed s a) → is_derived (role_of (place_of l)) ≡ false
  unfolding is_derived
  place-core l = ap is_derived (place-listed l)

  -- a place lies in the state
  pub place_inside : {a : Attribute} (l : Listed s a) → place_of l < state_length
  place_inside control = omega arith
  place_inside status = omega arith
  place_inside (spi-flags w k q) = omega (arith, field-small k, q.high, h.counted.most)
  place_inside (spi-lines w q) = omega (arith, q.high, h.counted.most)
  place_inside (spi-priority w j q l) = omega (arith, q.high, h.counted.most)
  place_inside (spi-config w j q l) = omega (arith, q.high, h.counted.most)
  place_inside (spi-route id l m) = omega arith
  place_inside (vcpu-status v l) = omega (arith, h.few)
  place_inside (vcpu-flags v k l) = omega (arith, field-small k, h.few)
  place_inside (vcpu-lines v l) = omega (arith, h.few)
  place_inside (vcpu-priority v j l m) = omega (arith, h.few)
  place_inside (vcpu-system v p l) = omega (arith, stored-small p, h.few)

  pub edge-words : (w j : ℕ) → SpiWord s w → j < 2 → word s (256 + 16 * w + (13 + j)) < 2 ^ 16
  edge-words w j q l =
      let p = 256 + 16 * w + (13 + j) in
      let m : used_bits (count s) (vcpus s) p ≤ 0xffff = bank-is s h (λ x. x ≤ 0xffff) w (13 + j) q (omega arith) (λ r. (in_table j l).0) (λ r. (in_table j l).1) in
      omega (arith, fits_le (word s p) (used_bits (count s) (vcpus s) p) (h.used p (omega (arith, q.high, h.counted.most))))
    where
      in_table : (i : ℕ) → i < 2 → (get_or bank_bits (13 + i) 0 ≤ 0xffff) × (get_or last_bank_bits (13 + i) 0 ≤ 0xffff)
      in_table zero m = (omega arith, omega arith)
      in_table (suc zero) m = (omega arith, omega arith)
      in_table (suc (suc i)) m = absurd (omega arith)

  itself-shows : (p : ℕ) → p < state_length → Shows s itself p
  itself-shows p l = let f = fits_lt (word s p) (used_bits (count s) (vcpus s) p) (h.used p l) in record { room = f; small = f }

  pub shows : {a : Attribute} (l : Listed s a) → Shows s (shape_of l) (place_of l)
  unfolding spread
  shows control = let f = fits_le (word s 3) 3 (header-word s h 3 (omega arith)) in record { room = omega arith; small = omega arith }
  shows status = itself-shows 4 (omega arith)
  shows (spi-flags w k q) = itself-shows _ (place_inside (spi-flags w k q))
  shows (spi-lines w q) = itself-shows _ (place_inside (spi-lines w q))
  shows (spi-priority w j q l) = itself-shows _ (place_inside (spi-priority w j q l))
  shows (spi-config w j q l) = record { room = edge-words w j q l; small = gather-lt 32 _ }
  shows (spi-route id l m) = itself-shows _ (place_inside (spi-route id l m))
  shows (vcpu-status v l) = itself-shows _ (place_inside (vcpu-status v l))
  shows (vcpu-flags v k l) = itself-shows _ (place_inside (vcpu-flags v k l))
  shows (vcpu-lines v l) = itself-shows _ (place_inside (vcpu-lines v l))
  shows (vcpu-priority v j l m) = itself-shows _ (place_inside (vcpu-priority v j l m))
  shows (vcpu-system v pmr l) = itself-shows _ (place_inside (vcpu-system v pmr l))
  shows (vcpu-system v ctlr l) = let f = fits_le (word s (block v + 20)) 2 (block-word s h v 20 l (omega arith)) in record { room = omega arith; small = omega arith }
  shows (vcpu-system v bpr0 l) = itself-shows _ (place_inside (vcpu-system v bpr0 l))
  shows (vcpu-system v bpr1 l) = itself-shows _ (place_inside (vcpu-system v bpr1 l))
  shows (vcpu-system v ap0r l) = itself-shows _ (place_inside (vcpu-system v ap0r l))
  shows (vcpu-system v ap1r l) = itself-shows _ (place_inside (vcpu-system v ap1r l))
  shows (vcpu-system v igrpen0 l) = itself-shows _ (place_inside (vcpu-system v igrpen0 l))
  shows (vcpu-system v igrpen1 l) = itself-shows _ (place_inside (vcpu-system v igrpen1 l))

-- the same attribute on a device of the same set-up: at the same place, shown alike, naming the same item
pub record Carried (t : List ℕ) (p : ℕ) (k : Shape) (i : Option Item) (a : Attribute) : Type 0 where
  pub there : Listed t a
  pub place : place_of there ≡ p
  pub shape : shape_of there ≡ k
  pub names : named_by there ≡ i

module _ (s t : List ℕ) (same : Alike s t) where
  pub spi-of : (w : ℕ) → SpiWord s w → SpiWord t w
  spi-of w q = record { low = q.low; high = rw same.same_count q.high }

  pub vcpu-of : (v : ℕ) → v < vcpus s → v < vcpus t
  vcpu-of v l = rw same.same_number l

  of-vcpu : (v g a : ℕ) {p : ℕ} {k : Shape} {i : Option Item} → v < vcpus s → Carried t p k i (attr g (of_vcpu t v a)) → Carried t p k i (attr g (of_vcpu s v a))
  of-vcpu v g a {p} {k} {i} l c = subst (λ (x : ℕ). Carried t p k i (attr g (x * 2 ^ 32 + a))) (same.same_affinities v l) c

  pub carried : {a : Attribute} (l : Listed s a) → Carried t (place_of l) (shape_of l) (named_by l) a
  carried control = record { there = control; place = refl; shape = refl; names = refl }
  carried status = record { there = status; place = refl; shape = refl; names = refl }
  carried (spi-flags w k q) = record { there = spi-flags w k (spi-of w q); place = refl; shape = refl; names = refl }
  carried (spi-lines w q) = record { there = spi-lines w (spi-of w q); place = refl; shape = refl; names = refl }
  carried (spi-priority w j q l) = record { there = spi-priority w j (spi-of w q) l; place = refl; shape = refl; names = refl }
  carried (spi-config w j q l) = record { there = spi-config w j (spi-of w q) l; place = refl; shape = refl; names = refl }
  carried (spi-route id l m) = record { there = spi-route id l (rw same.same_count m); place = refl; shape = refl; names = refl }
  carried (vcpu-status v l) = of-vcpu v 5 0x10 l (record { there = vcpu-status v (vcpu-of v l); place = refl; shape = refl; names = refl })
  carried (vcpu-flags v k l) = of-vcpu v 5 (0x10000 + offset_of k) l (record { there = vcpu-flags v k (vcpu-of v l); place = refl; shape = refl; names = refl })
  carried (vcpu-lines v l) = of-vcpu v 7 0 l (record { there = vcpu-lines v (vcpu-of v l); place = refl; shape = refl; names = refl })
  carried (vcpu-priority v j l m) = of-vcpu v 5 (0x10400 + 4 * j) l (record { there = vcpu-priority v j (vcpu-of v l) m; place = refl; shape = refl; names = refl })
  carried (vcpu-system v p l) = of-vcpu v 6 (encoding_of p) l (record { there = vcpu-system v p (vcpu-of v l); place = refl; shape = refl; names = refl })

  -- a listed attribute that reads the same in both has the same word in both
  pub same_word : Ready s → Ready t → {a : Attribute} (l : Listed s a) → item_read t (item_of a t) ≡ item_read s (item_of a s) → word t (place_of l) ≡ word s (place_of l)
  same_word hs ht l e =
      let c = carried l in
      let there : shown (shape_of l) (word t (place_of l)) ≡ shown (shape_of l) (word s (place_of l)) = (rw (c.place, c.shape) at (sym (reads-place t ht c.there))) ∙ e ∙ reads-place s hs l in
      let room : word t (place_of l) < room_of (shape_of l) = rw (c.place, c.shape) at (shows t ht c.there).room in
      shown-once (shape_of l) (word t (place_of l)) (word s (place_of l)) room (shows s hs l).room there

-- two sound, stopped devices of the same count and affinities whose listed attributes read alike are equal
pub listed-decide : (s t : List ℕ) → Stopped s → Stopped t → Alike s t
    → ((a : Attribute) → Memᴰ a (listed s) → item_read t (item_of a t) ≡ item_read s (item_of a s)) → t ≡ s
unfolding Owned
listed-decide s t hs ht same reads =
    core-decides s t hs.is_sound ht.is_sound word_at
  where
    rs : Ready s
    rs = stopped-ready s hs

    rt : Ready t
    rt = stopped-ready t ht

    idle : (v : ℕ) → v < vcpus s → running t v ≡ running s v
    idle v l = stopped-running t ht.is_stopped v (rw same.same_number l) ∙ sym (stopped-running s hs.is_stopped v l)

    word_at : (p : ℕ) → p < 1760 → is_derived (role_of p) ≡ false → word t p ≡ word s p
    word_at p l core =
        ⊎_elim (λ o. rw o.2 at (same_word s t same rs rt o.1 (reads o.0 (member s rs o.1)))) (λ e. e) (each_owned s t rs rt same idle p l core)
