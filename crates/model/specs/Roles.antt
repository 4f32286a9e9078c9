-- The role of each word of the state: who decides it, and what demand 3 asks of it.
use Rattle.std.specs.Prelude.{ℕ, zero, suc, ◌-◌, ◌%◌, Bool, true, false, cond, List, [], ◌∷◌, ltb}

pub data Role : Type 0 where
  -- decided by the calls that set a device up, and equal in the two devices of demand 3
  set_up_word : Role
  -- one value in every device of that set-up: the SGI edge flags
  fixed : Role
  -- read and put by a listed attribute, and saved in the record
  listed : Role
  -- zero in a stopped device: the running marks
  transient : Role
  -- a function of the words above: none yet
  derived : Role
  -- always zero
  absent : Role

-- the device's own words
abbrev pub header_roles : List Role
header_roles = set_up_word ∷ set_up_word ∷ set_up_word ∷ listed ∷ listed ∷ []

-- a vCPU's block: its bank; affinity; running; STATUSR and the CPU interface
abbrev pub block_roles : List Role
block_roles =
    listed ∷ listed ∷ listed ∷ listed ∷ listed
    ∷ listed ∷ listed ∷ listed ∷ listed ∷ listed ∷ listed ∷ listed ∷ listed
    ∷ fixed ∷ absent ∷ absent
    ∷ set_up_word ∷ transient ∷ listed ∷ listed ∷ listed ∷ listed ∷ listed ∷ listed ∷ listed ∷ listed ∷ listed ∷ []

-- a bank of SPIs
abbrev pub bank_roles : List Role
bank_roles =
    listed ∷ listed ∷ listed ∷ listed ∷ listed
    ∷ listed ∷ listed ∷ listed ∷ listed ∷ listed ∷ listed ∷ listed ∷ listed
    ∷ listed ∷ listed ∷ []

-- word j of a table; behind its end no word exists
unfoldable pub role_in : List Role → ℕ → Role
role_in [] j = absent
role_in (r ∷ rs) zero = r
role_in (r ∷ rs) (suc j) = role_in rs j

-- word k of a state: below 16 the device's own, below 272 the vCPUs' blocks, below 768 the banks of the SPIs, below 1756 their routes
unfoldable pub role_of : ℕ → Role
role_of k =
    cond (ltb k 16) (role_in header_roles k)
    (cond (ltb k 272) (role_in block_roles ((k - 16) % 32))
    (cond (ltb k 768) (role_in bank_roles ((k - 256) % 16))
    (cond (ltb k 1756) listed absent)))

-- a store to a word of this role leaves the set-up and the derived words as they are
unfoldable pub is_free : Role → Bool
is_free set_up_word = false
is_free fixed = true
is_free listed = true
is_free transient = true
is_free derived = false
is_free absent = true

unfoldable pub is_derived : Role → Bool
is_derived set_up_word = false
is_derived fixed = false
is_derived listed = false
is_derived transient = false
is_derived derived = true
is_derived absent = false

-- ---- the derived words

-- a state with its derived words put in: there are none yet
unfoldable pub with_derived : List ℕ → List ℕ
with_derived s = s

-- the derived words are those that the others give
unfoldable pub derived_ok : List ℕ → Bool
derived_ok s = true
