-- The CPU interface of vCPU v.
use Rattle.std.specs.Prelude.{ℕ, zero, suc, ◌+◌, ◌*◌, ◌-◌, ◌/◌, ◌%◌, ◌^◌, min, max, Bool, true, false, not, cond, ◌&&◌, ◌||◌, List, [], ◌∷◌, eqb, ltb, leb, set}
use Rattle.model.specs.Values.{icc_ctlr_fixed, icc_ctlr_bits, icc_sre, id_span, spurious}
use Rattle.model.specs.Words.{val, bit, with_bit, masked, lowest}
use Rattle.model.specs.Layout.{word, count, vcpus, enables_at, affinity, pmr_at, ctlr_at, bpr_at, least_bpr, apr_at, igrpen_at, latch_field, active_field}
use Rattle.model.specs.Interrupts.{is_private, ids_below, is_spi, exists, group, enabled, active, priority, route, pending, set_flag}
use Rattle.model.specs.Sound.{fits}
use Rattle.model.specs.declared.By.{By}
use Rattle.model.specs.declared.InterruptGroup.{InterruptGroup}
use Rattle.model.specs.declared.InterruptGroup.TheVariants.{Group0, Group1}
use Rattle.model.specs.declared.Plain.{Plain}
use Rattle.model.specs.declared.Plain.TheVariants.{Pmr, Bpr, Apr, Ctlr, Sre, Igrpen}
use Rattle.model.specs.declared.Readable.{Readable}
use Rattle.model.specs.declared.Readable.TheVariants.{Iar, Hppir, Rpr}
use Rattle.model.specs.declared.Writable.{Writable}
use Rattle.model.specs.declared.Writable.TheVariants.{Eoir, Dir, Sgi1r, Sgi0r}
use Rattle.model.specs.declared.SystemRegister.{SystemRegister}
use Rattle.model.specs.declared.SystemRegister.TheVariants.{Both, Read, Write, Unnamed}

-- ---- encodings and directions

pub record SystemRow : Type 0 where
  pub encoding : ℕ
  pub register : SystemRegister

abbrev pub system_row : ℕ → SystemRegister → SystemRow
system_row e r = record { encoding = e; register = r }

abbrev pub system_rows : List SystemRow
system_rows =
    system_row 0xc230 (Both Pmr)
    ∷ system_row 0xc643 (Both (Bpr Group0))
    ∷ system_row 0xc644 (Both (Apr Group0))
    ∷ system_row 0xc648 (Both (Apr Group1))
    ∷ system_row 0xc663 (Both (Bpr Group1))
    ∷ system_row 0xc664 (Both Ctlr)
    ∷ system_row 0xc665 (Both Sre)
    ∷ system_row 0xc666 (Both (Igrpen Group0))
    ∷ system_row 0xc667 (Both (Igrpen Group1))
    ∷ system_row 0xc640 (Read (Iar Group0))
    ∷ system_row 0xc642 (Read (Hppir Group0))
    ∷ system_row 0xc65b (Read Rpr)
    ∷ system_row 0xc660 (Read (Iar Group1))
    ∷ system_row 0xc662 (Read (Hppir Group1))
    ∷ system_row 0xc641 (Write (Eoir Group0))
    ∷ system_row 0xc659 (Write Dir)
    ∷ system_row 0xc65d (Write Sgi1r)
    ∷ system_row 0xc65f (Write Sgi0r)
    ∷ system_row 0xc661 (Write (Eoir Group1))
    ∷ []

unfoldable pub system_in : List SystemRow → ℕ → SystemRegister
system_in [] e = Unnamed
system_in (r ∷ rs) e = elim (eqb e r.encoding) [ true ↦ r.register | false ↦ system_in rs e ]

unfoldable pub system : ℕ → SystemRegister
system e = system_in system_rows e

-- the number of an interrupt group
abbrev pub group_index : InterruptGroup → ℕ
group_index Group0 = 0
group_index Group1 = 1

-- ---- the plain registers, read and written by guest or attribute

unfoldable pub plain_read : By → List ℕ → ℕ → Plain → ℕ
plain_read by s v Pmr = word s (pmr_at v)
plain_read by s v (Bpr g) = word s (bpr_at v (group_index g))
plain_read by s v (Apr g) = word s (apr_at v (group_index g))
plain_read by s v Ctlr = icc_ctlr_fixed + word s (ctlr_at v)
plain_read by s v Sre = icc_sre
plain_read by s v (Igrpen g) = word s (igrpen_at v (group_index g))

-- PMR keeps bits 7-3, BPRs bits 2-0 raised to their least, APs bits 31-0, IGRPEN bit 0; of CTLR bit 1 is written; SRE ignores writes
unfoldable pub plain_write : By → List ℕ → ℕ → Plain → ℕ → List ℕ
plain_write by s v Pmr x = set s (pmr_at v) (x % 256 / 8 * 8)
plain_write by s v (Bpr g) x = set s (bpr_at v (group_index g)) (max (least_bpr (group_index g)) (x % 8))
plain_write by s v (Apr g) x = set s (apr_at v (group_index g)) (x % 2 ^ 32)
plain_write by s v Ctlr x = set s (ctlr_at v) (masked icc_ctlr_bits x)
plain_write by s v Sre x = s
plain_write by s v (Igrpen g) x = set s (igrpen_at v (group_index g)) (x % 2)

-- by attribute, a value that CTLR or SRE never reads is refused
unfoldable pub plain_takes : Plain → ℕ → Bool
plain_takes Pmr x = true
plain_takes (Bpr g) x = true
plain_takes (Apr g) x = true
plain_takes Ctlr x = leb icc_ctlr_fixed x && fits (x - icc_ctlr_fixed) icc_ctlr_bits
plain_takes Sre x = eqb x icc_sre
plain_takes (Igrpen g) x = true

-- ---- candidates and the best

-- its own private, or an SPI routed to its affinity
unfoldable pub own_or_routed : List ℕ → ℕ → ℕ → Bool
own_or_routed s v id = is_private id || (is_spi s id && eqb (route s id) (affinity s v))

-- group g is enabled in distributor and CPU interface
unfoldable pub group_on : List ℕ → ℕ → ℕ → Bool
group_on s v g = bit (word s enables_at) g && bit (word s (igrpen_at v g)) 0

-- pending, enabled, not active, its group enabled in distributor and CPU interface
unfoldable pub candidate : List ℕ → ℕ → ℕ → Bool
candidate s v id = own_or_routed s v id && pending s v id && enabled s v id && not (active s v id) && group_on s v (val (group s v id))

-- An interrupt as one number, priority first and then ID: the least is the least ID among those of least priority.
-- `nothing` stands behind every interrupt: its priority is 256 and its ID is 1023.
unfoldable pub rank : List ℕ → ℕ → ℕ → ℕ
rank s v id = priority s v id * id_span + id

abbrev pub nothing : ℕ
nothing = 256 * id_span + spurious

abbrev pub rank_priority : ℕ → ℕ
rank_priority b = b / id_span

abbrev pub rank_id : ℕ → ℕ
rank_id b = b % id_span

-- whether b is an interrupt
abbrev pub found : ℕ → Bool
found b = ltb b (256 * id_span)

-- the better of b and interrupt id
unfoldable pub better : List ℕ → ℕ → ℕ → ℕ → ℕ
better s v id b = cond (candidate s v id) (min (rank s v id) b) b

-- the best of b and the n interrupts from id on
unfoldable pub scan : List ℕ → ℕ → ℕ → ℕ → ℕ → ℕ
scan s v zero id b = b
scan s v (suc n) id b = scan s v n (suc id) (better s v id b)

-- the least ID among those of least priority, of the interrupts that exist: those below the count and below 1020
unfoldable pub best : List ℕ → ℕ → ℕ
best s v = scan s v (ids_below (count s)) 0 nothing

-- ---- group priority: low bits cleared, BPR0 + 1 of them for group 0, BPR1 for group 1
unfoldable pub cleared_bits : List ℕ → ℕ → ℕ → ℕ
cleared_bits s v g = cond (eqb g 0) (word s (bpr_at v 0) + 1) (word s (bpr_at v 1))

unfoldable pub group_priority : List ℕ → ℕ → ℕ → ℕ → ℕ
group_priority s v g p = p / 2 ^ cleared_bits s v g * 2 ^ cleared_bits s v g

-- ---- the running level: the lowest set bit of the two, 32 when idle; AP bit k stands for priority 8k
unfoldable pub running_level : List ℕ → ℕ → ℕ
running_level s v = lowest (λ k. bit (word s (apr_at v 0)) k || bit (word s (apr_at v 1)) k) 32 0

-- RPR gives 8k or 255
unfoldable pub running_priority : List ℕ → ℕ → ℕ
running_priority s v = cond (ltb (running_level s v) 32) (8 * running_level s v) 255

-- ---- acknowledge

-- the best b is of group g
unfoldable pub of_group : List ℕ → ℕ → ℕ → ℕ → Bool
of_group s v g b = found b && eqb (val (group s v (rank_id b))) g

-- IARg gives the best b: of group g, its priority below PMR, its group priority below the running one (idle: 8 x 32 is above every priority)
unfoldable pub gives : List ℕ → ℕ → ℕ → ℕ → Bool
gives s v g b = of_group s v g b && ltb (rank_priority b) (word s (pmr_at v)) && ltb (group_priority s v g (rank_priority b)) (8 * running_level s v)

-- what IARg would give, as a rank
unfoldable pub offered : List ℕ → ℕ → ℕ → ℕ
offered s v g = let b = best s v in cond (gives s v g b) b nothing

-- the active-priority bit of the rank b
unfoldable pub level_of : List ℕ → ℕ → ℕ → ℕ → ℕ
level_of s v g b = group_priority s v g (rank_priority b) / 8

unfoldable pub set_level : Bool → ℕ → ℕ → ℕ → List ℕ → List ℕ
set_level t v g level s = set s (apr_at v g) (with_bit (word s (apr_at v g)) level t)

-- acknowledging b: it is made active, its latch cleared, its group priority's bit set in APgR
unfoldable pub taken : List ℕ → ℕ → ℕ → ℕ → List ℕ
taken s v g b = set_level true v g (level_of s v g b) (set_flag latch_field false v (rank_id b) (set_flag active_field true v (rank_id b) s))

-- the active-priority bit of what is acknowledged is clear
unfoldable pub level_clear : List ℕ → ℕ → ℕ → ℕ → Bool
level_clear s v g b = not (found b && bit (word s (apr_at v g)) (level_of s v g b))

unfoldable pub acknowledged : List ℕ → ℕ → ℕ → ℕ → List ℕ
acknowledged s v g b = cond (found b) (taken s v g b) s

-- HPPIRg: the best's ID if of group g, else 1023
unfoldable pub highest_pending : List ℕ → ℕ → ℕ → ℕ
highest_pending s v g = let b = best s v in cond (of_group s v g b) (rank_id b) spurious

-- 1 if IAR1, 2 if IAR0 would give an interrupt, else 0
unfoldable pub signal : List ℕ → ℕ → ℕ
signal s v = cond (found (offered s v 1)) 1 (cond (found (offered s v 0)) 2 0)

-- ---- end of interrupt, deactivate

abbrev pub eoi_mode : List ℕ → ℕ → Bool
eoi_mode s v = bit (word s (ctlr_at v)) 1

-- that bit of APgR is cleared and, in EOImode 0, the interrupt made inactive
unfoldable pub dropped : List ℕ → ℕ → ℕ → ℕ → ℕ → List ℕ
dropped s v g id level = cond (eoi_mode s v) (set_level false v g level s) (set_flag active_field false v id (set_level false v g level s))

-- nothing if no such interrupt, or if APgR lacks the running level
unfoldable pub ended : List ℕ → ℕ → ℕ → ℕ → List ℕ
ended s v g id =
    let level = running_level s v in
    cond (exists s id && bit (word s (apr_at v g)) level) (dropped s v g id level) s

-- in EOImode 1 makes an existing one inactive, else nothing
unfoldable pub deactivated : List ℕ → ℕ → ℕ → List ℕ
deactivated s v id = cond (eoi_mode s v && exists s id) (set_flag active_field false v id s) s

-- ---- SGIs

-- a field of eight bits
abbrev pub byte_at : ℕ → ℕ → ℕ
byte_at x k = x / 2 ^ k % 256

-- Aff3.Aff2.Aff1 equal to bits 55-48, 39-32, 23-16 and bit Aff0 of 15-0 set
unfoldable pub named : ℕ → ℕ → Bool
named x a = eqb (byte_at a 24) (byte_at x 48) && eqb (byte_at a 16) (byte_at x 32) && eqb (byte_at a 8) (byte_at x 16) && bit (x % 2 ^ 16) (byte_at a 0)

-- with bit 40, all vCPUs but the writer v; else those that are named
unfoldable pub targets : List ℕ → ℕ → ℕ → ℕ → Bool
targets s v x t = cond (bit x 40) (not (eqb t v)) (named x (affinity s t))

-- ID bits 27-24
abbrev pub sgi_id : ℕ → ℕ
sgi_id x = x / 2 ^ 24 % 16

-- SGI0R: only where that SGI is in group 0
unfoldable pub reaches : Bool → List ℕ → ℕ → ℕ → ℕ → Bool
reaches only0 s v x t = targets s v x t && not (only0 && group s t (sgi_id x))

-- the SGI of the targets among the first n vCPUs is latched
unfoldable pub sgi_sent : ℕ → Bool → ℕ → ℕ → List ℕ → List ℕ
sgi_sent zero only0 v x s = s
sgi_sent (suc n) only0 v x s = let t = sgi_sent n only0 v x s in cond (reaches only0 s v x n) (set_flag latch_field true n (sgi_id x) t) t

-- ---- what a guest reads and writes

-- ID in bits 23-0
abbrev pub id_of : ℕ → ℕ
id_of x = x % 2 ^ 24

unfoldable pub system_read : List ℕ → ℕ → Readable → ℕ
system_read s v (Iar g) = rank_id (offered s v (group_index g))
system_read s v (Hppir g) = highest_pending s v (group_index g)
system_read s v Rpr = running_priority s v

unfoldable pub system_read_next : List ℕ → ℕ → Readable → List ℕ
system_read_next s v (Iar g) = acknowledged s v (group_index g) (offered s v (group_index g))
system_read_next s v (Hppir g) = s
system_read_next s v Rpr = s

-- an acknowledge that finds its active-priority bit set is refused
unfoldable pub system_read_clear : List ℕ → ℕ → Readable → Bool
system_read_clear s v (Iar g) = level_clear s v (group_index g) (offered s v (group_index g))
system_read_clear s v (Hppir g) = true
system_read_clear s v Rpr = true

unfoldable pub system_write : List ℕ → ℕ → Writable → ℕ → List ℕ
system_write s v (Eoir g) x = ended s v (group_index g) (id_of x)
system_write s v Dir x = deactivated s v (id_of x)
system_write s v Sgi1r x = sgi_sent (vcpus s) false v x s
system_write s v Sgi0r x = sgi_sent (vcpus s) true v x s
