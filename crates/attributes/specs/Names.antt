-- What an attribute of the groups 1, 5, 6 and 7 names, or its refusal. The definitions follow model's `item`, which is looked up in two steps: where it stands, and what is named there.
use Rattle.std.specs.Prelude.{ℕ, ◌/◌, ◌<◌, ◌≡◌, true, cond, List, ◌∷◌, ltb, Option, Some, None, Result, Ok, Err}
use Rattle.model.specs.Layout.{most_vcpus}
use Rattle.model.specs.Sound.{sound}
use Rattle.model.specs.Refusals.{Refusal, first_failing}
use Rattle.model.specs.Registers.{words_of, seen_by}
use Rattle.model.specs.Interface.{system}
use Rattle.model.specs.Attributes.{high, low, index_of, is_used, mapped, system_item, item}
use Rattle.model.specs.Calls.{register_checks}
use Rattle.model.specs.declared.Errno.{Errno}
use Rattle.model.specs.declared.Errno.TheVariants.{Efault, Enxio}
use Rattle.model.specs.declared.View.{View}
use Rattle.model.specs.declared.View.TheVariants as view
use Rattle.model.specs.declared.Flags.TheVariants as flags
use Rattle.model.specs.declared.Register.TheVariants.{Bits}
use Rattle.model.specs.declared.Item.{Item}
use Rattle.model.specs.declared.Item.TheVariants.{Mapped, System}
use Rattle.model.specs.declared.RegisterGroup.{RegisterGroup}
use Rattle.model.specs.declared.RegisterGroup.TheVariants.{Distributor, Redistributor, Interface, Lines}
use Rattle.priority.specs.Asked.{Usable}

-- the number of a group
unfoldable pub group_number : RegisterGroup → ℕ
group_number Distributor = 1
group_number Redistributor = 5
group_number Interface = 6
group_number Lines = 7

-- ---- where a register stands

-- the frame of the vCPU that has an affinity, if one has it
unfoldable pub frame_with : List ℕ → ℕ → Option View
frame_with s a = cond (is_used s a) (Some (view.Frame (index_of s a))) None

unfoldable pub place_of : RegisterGroup → ℕ → List ℕ → Option View
place_of Distributor a s = Some view.Distributor
place_of Redistributor a s = frame_with s (high a)
place_of Interface a s = frame_with s (high a)
place_of Lines a s = cond (ltb (low a) 32) (frame_with s (high a)) (Some view.Distributor)

-- ---- what a number names there: group 6 a system register of the vCPU whose frame it is; group 7 has 32 lines a word

unfoldable pub item_at : RegisterGroup → View → ℕ → Option Item
item_at Distributor x n = mapped x n
item_at Redistributor x n = mapped x n
item_at Interface x n = system_item x (system n)
item_at Lines x n = Some (Mapped x (Bits flags.Lines) (n / 32))

-- ---- what an attribute names, where a get of it is not refused: a get of one that names nothing is

unfoldable pub named_by : Refusal → Option Item → Result Item Errno
named_by (Err e) i = Err e
named_by (Ok tt) (Some i) = Ok i
named_by (Ok tt) None = Err Enxio

unfoldable pub item_named : RegisterGroup → ℕ → List ℕ → Result Item Errno
item_named q a s = named_by (first_failing ((sound s, Efault) ∷ register_checks q a s)) (item q a s)

-- ---- what the functions that read and write it ask

abbrev pub Within : List ℕ → Item → Type 0
Within s (Mapped x r k) = (sound s ≡ true) × (seen_by x < most_vcpus) × (k < words_of x r)
Within s (System x p) = Usable s (seen_by x)
