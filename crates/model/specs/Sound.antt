-- The sound states: right length, every field in range, what does not exist zero.
use Rattle.std.specs.Prelude.{ℕ, zero, suc, ◌*◌, ◌/◌, ◌%◌, ◌-◌, Bool, true, not, cond, ◌&&◌, ◌||◌, List, [], ◌∷◌, leb, ltb, eqb, length, get_or}
use Rattle.model.specs.Words.{within, every, all_below}
use Rattle.model.specs.Values.{icc_ctlr_bits, flag_bits, last_flag_bits, ppi_bits, priority_bits, edge_bits, last_edge_bits, route_bits, affinity_bits, statusr_bits, pmr_bits, bpr_bits, apr_bits, gicd_ctlr_bits, one_bit}
use Rattle.model.specs.Roles.{derived_ok}
use Rattle.model.specs.Layout.{state_length, most_vcpus, word, initialised, is_initialised, count, vcpus, affinity, running, bpr_at, least_bpr, sgi_edges_at}

-- ---- the bits that a word may have

-- the first 16 words of an initialised device; of words 0, 1 and 2 `setup` says more
abbrev pub header_bits : List ℕ
header_bits = 0xffffffff ∷ 0xffffffff ∷ 0xffffffff ∷ gicd_ctlr_bits ∷ statusr_bits ∷ []

-- a vCPU's block: priorities are multiples of 8; SGIs have no line and are edge, PPIs are level; Aff3 is 0 and Aff0 at most 15
abbrev pub block_bits : List ℕ
block_bits =
    flag_bits ∷ flag_bits ∷ flag_bits ∷ flag_bits ∷ ppi_bits
    ∷ priority_bits ∷ priority_bits ∷ priority_bits ∷ priority_bits ∷ priority_bits ∷ priority_bits ∷ priority_bits ∷ priority_bits
    ∷ edge_bits ∷ 0 ∷ 0
    ∷ affinity_bits ∷ one_bit ∷ statusr_bits ∷ pmr_bits ∷ icc_ctlr_bits ∷ bpr_bits ∷ bpr_bits ∷ apr_bits ∷ apr_bits ∷ one_bit ∷ one_bit ∷ []

-- a bank of SPIs; in the last one, of the interrupts 992 to 1023, those from 1020 do not exist
abbrev pub bank_bits : List ℕ
bank_bits =
    flag_bits ∷ flag_bits ∷ flag_bits ∷ flag_bits ∷ flag_bits
    ∷ priority_bits ∷ priority_bits ∷ priority_bits ∷ priority_bits ∷ priority_bits ∷ priority_bits ∷ priority_bits ∷ priority_bits
    ∷ edge_bits ∷ edge_bits ∷ []

abbrev pub last_bank_bits : List ℕ
last_bank_bits =
    last_flag_bits ∷ last_flag_bits ∷ last_flag_bits ∷ last_flag_bits ∷ last_flag_bits
    ∷ priority_bits ∷ priority_bits ∷ priority_bits ∷ priority_bits ∷ priority_bits ∷ priority_bits ∷ priority_bits ∷ 0
    ∷ edge_bits ∷ last_edge_bits ∷ []

-- fresh values: all zero but the SGI edge flags, BPR0 2, BPR1 3, the affinity, the count and the initialised mark. With the least values of `vcpu_ok`
-- a BPR0 within 2 is 2, a BPR1 within 3 is 3
abbrev pub fresh_header_bits : List ℕ
fresh_header_bits = 0xffffffff ∷ 0xffffffff ∷ 0xffffffff ∷ []

abbrev pub fresh_block_bits : List ℕ
fresh_block_bits =
    0 ∷ 0 ∷ 0 ∷ 0 ∷ 0
    ∷ 0 ∷ 0 ∷ 0 ∷ 0 ∷ 0 ∷ 0 ∷ 0 ∷ 0
    ∷ edge_bits ∷ 0 ∷ 0
    ∷ affinity_bits ∷ 0 ∷ 0 ∷ 0 ∷ 0 ∷ least_bpr 0 ∷ least_bpr 1 ∷ []

-- entry j of a table, where the thing that it speaks of exists
unfoldable pub entry : Bool → List ℕ → ℕ → ℕ
entry e bits j = cond e (get_or bits j 0) 0

-- word k of an initialised device of c interrupts and n vCPUs: below 16 the device's own, below 272 the vCPUs' blocks, below 752 the banks of the
-- SPIs 32 to 991, below 768 the last bank, below 1756 the SPIs' routes
unfoldable pub used_bits : ℕ → ℕ → ℕ → ℕ
used_bits c n k =
    cond (ltb k 16) (entry true header_bits k)
    (cond (ltb k 272) (entry (ltb ((k - 16) / 32) n) block_bits ((k - 16) % 32))
    (cond (ltb k 752) (entry (ltb (32 * ((k - 256) / 16)) c) bank_bits ((k - 256) % 16))
    (cond (ltb k 768) (entry (ltb 992 c) last_bank_bits (k - 752))
    (cond (ltb k 1756 && ltb (k - 736) c) route_bits 0))))

-- word k of a fresh device of n vCPUs
unfoldable pub fresh_bits : ℕ → ℕ → ℕ
fresh_bits n k =
    cond (ltb k 16) (entry true fresh_header_bits k)
    (cond (ltb k 272) (entry (ltb ((k - 16) / 32) n) fresh_block_bits ((k - 16) % 32)) 0)

-- before initialising only count, affinities and the fresh values
unfoldable pub allowed_bits : ℕ → ℕ → ℕ → ℕ → ℕ
allowed_bits zero c n k = fresh_bits n k
allowed_bits (suc i) c n k = used_bits c n k

-- a word has only bits that it may have; 0 has none
unfoldable pub fits : ℕ → ℕ → Bool
fits w m = eqb w 0 || within 32 w m

unfoldable pub word_ok : ℕ → ℕ → ℕ → ℕ → ℕ → Bool
word_ok i c n k w = fits w (allowed_bits i c n k)

-- ---- the set-up: words 0, 1 and 2

-- 64 to 1024 in steps of 32
unfoldable pub is_count : ℕ → Bool
is_count c = leb 64 c && leb c 1024 && eqb (c % 32) 0

-- 0 to 8 vCPUs; a count, or none yet; after initialising a count and a vCPU
unfoldable pub setup : ℕ → ℕ → ℕ → Bool
setup i c n = leb i 1 && leb n most_vcpus && (eqb c 0 || is_count c) && (eqb i 0 || (is_count c && leb 1 n))

-- ---- the vCPUs

-- Aff3 is 0 and Aff0 at most 15
unfoldable pub is_affinity : ℕ → Bool
is_affinity a = ltb a 0x1000000 && leb (a % 256) 15

-- none of the first n vCPUs has the affinity a
unfoldable pub unused : List ℕ → ℕ → ℕ → Bool
unused s a n = all_below (λ v. not (eqb (affinity s v) a)) n

-- SGIs are edge, BPR0 and BPR1 have at least their least values, and no vCPU before v has its affinity
unfoldable pub vcpu_ok : List ℕ → ℕ → Bool
vcpu_ok s v = eqb (word s (sgi_edges_at v)) edge_bits && leb (least_bpr 0) (word s (bpr_at v 0)) && leb (least_bpr 1) (word s (bpr_at v 1)) && unused s (affinity s v) v

-- ---- sound

-- word by word: the length, the set-up, each vCPU, each word
unfoldable pub core : List ℕ → Bool
core s =
    eqb (length s) state_length && (setup (initialised s) (count s) (vcpus s)
    && (all_below (vcpu_ok s) (vcpus s) && every (word_ok (initialised s) (count s) (vcpus s)) 0 s))

-- and the words that are derived from others are right
unfoldable pub sound : List ℕ → Bool
sound s = core s && derived_ok s

-- initialised, and no vCPU runs
unfoldable pub stopped : List ℕ → Bool
stopped s = is_initialised s && all_below (λ v. eqb (running s v) 0) (vcpus s)

-- what restore asks of the words of its target, a sound state: just initialised
unfoldable pub fresh : List ℕ → Bool
fresh s = is_initialised s && every (λ k w. fits w (fresh_bits (vcpus s) k)) 0 s
