-- Refusals as negative errno, and the first of a list of tests that fails.
use Rattle.std.specs.Prelude.{ℕ, Bool, true, false, List, [], ◌∷◌, ℤ, pos, neg_ℤ, ⊤, Result, Ok, Err}
use Rattle.model.specs.declared.Errno.{Errno}
use Rattle.model.specs.declared.Errno.TheVariants.{Eperm, Eio, Enxio, Enomem, Efault, Ebusy, Eexist, Enodev, Einval, Enospc, Ebadmsg}

-- the table's numbers
unfoldable pub errno : Errno → ℕ
errno Eperm = 1
errno Eio = 5
errno Enxio = 6
errno Enomem = 12
errno Efault = 14
errno Ebusy = 16
errno Eexist = 17
errno Enodev = 19
errno Einval = 22
errno Enospc = 28
errno Ebadmsg = 74

-- what a call answers: a number, or its refusal
abbrev pub Answer : Type 0
Answer = Result ℕ Errno

-- the signed number of an answer: -errno, or an answer from 0 up
unfoldable pub number : Answer → ℤ
number (Ok v) = pos v
number (Err e) = neg_ℤ (pos (errno e))

-- whether a call is refused, and with what
abbrev pub Refusal : Type 0
Refusal = Result ⊤ Errno

-- a test that must hold, and the refusal where it does not
abbrev pub Check : Type 0
Check = Bool × Errno

-- the refusal of the first test that fails
unfoldable pub first_failing : List Check → Refusal
first_failing [] = Ok tt
first_failing (c ∷ cs) = elim c.0 [ true ↦ first_failing cs | false ↦ Err c.1 ]
