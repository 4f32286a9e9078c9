-- The attribute calls: groups 1 and 3 to 7.
use Rattle.std.specs.Prelude.{ℕ, ◌/◌, ◌%◌, ◌^◌, Bool, true, false, cond, ◌&&◌, List, eqb, ltb, Some, None, Option}
use Rattle.model.specs.Words.{lowest}
use Rattle.model.specs.Layout.{vcpus, affinity}
use Rattle.model.specs.Values.{iidr}
use Rattle.model.specs.Registers.{Decoded, decode, rows, read, write, seen_by}
use Rattle.model.specs.Interface.{system, plain_read, plain_write, plain_takes}
use Rattle.model.specs.declared.By.TheVariants as by
use Rattle.model.specs.declared.View.{View}
use Rattle.model.specs.declared.View.TheVariants as view
use Rattle.model.specs.declared.Flags.TheVariants as flags
use Rattle.model.specs.declared.Register.{Register}
use Rattle.model.specs.declared.Register.TheVariants.{Fixed, Control, Typer, Iidr, Status, Bits, Priority, Config, Route, FrameTyper, FrameAffinity}
use Rattle.model.specs.declared.SystemRegister.{SystemRegister}
use Rattle.model.specs.declared.SystemRegister.TheVariants.{Both, Read, Write, Unnamed}
use Rattle.model.specs.declared.RegisterGroup.{RegisterGroup}
use Rattle.model.specs.declared.RegisterGroup.TheVariants.{Distributor, Redistributor, Interface, Lines}
use Rattle.model.specs.declared.AttributeGroup.{AttributeGroup}
use Rattle.model.specs.declared.AttributeGroup.TheVariants.{Registers, Count, Initialise, Unknown}
use Rattle.model.specs.declared.Item.{Item}
use Rattle.model.specs.declared.Item.TheVariants.{Mapped, System}

-- ---- groups
unfoldable pub group_of : ℕ → AttributeGroup
group_of g =
    cond (eqb g 1) (Registers Distributor)
    (cond (eqb g 3) Count
    (cond (eqb g 4) Initialise
    (cond (eqb g 5) (Registers Redistributor)
    (cond (eqb g 6) (Registers Interface)
    (cond (eqb g 7) (Registers Lines) Unknown)))))

-- ---- the parts of an attribute's number: bits 63-32 and bits 31-0
abbrev pub high : ℕ → ℕ
high a = a / 2 ^ 32 % 2 ^ 32

abbrev pub low : ℕ → ℕ
low a = a % 2 ^ 32

-- the index of the vCPU with an affinity, or the number of vCPUs if there is none
unfoldable pub index_of : List ℕ → ℕ → ℕ
index_of s a = lowest (λ v. eqb (affinity s v) a) (vcpus s) 0

-- a vCPU has the affinity a
abbrev pub is_used : List ℕ → ℕ → Bool
is_used s a = ltb (index_of s a) (vcpus s)

-- ---- what is asked of the number

-- group 7: bits 31-10 are 0 and bits 9-0 a multiple of 32
unfoldable pub number_ok : RegisterGroup → ℕ → Bool
number_ok Distributor a = true
number_ok Redistributor a = true
number_ok Interface a = true
number_ok Lines a = eqb (low a / 1024) 0 && eqb (low a % 1024 % 32) 0

-- groups 5, 6, and 7 below ID 32: bits 63-32 are a vCPU's affinity
unfoldable pub affinity_known : RegisterGroup → ℕ → List ℕ → Bool
affinity_known Distributor a s = true
affinity_known Redistributor a s = is_used s (high a)
affinity_known Interface a s = is_used s (high a)
affinity_known Lines a s = cond (ltb (low a) 32) (is_used s (high a)) true

-- ---- what it names

unfoldable pub mapped_item : View → Decoded → Option Item
mapped_item x (Some (r, k)) = Some (Mapped x r k)
mapped_item x None = None

-- only the listed aligned words exist
unfoldable pub mapped : View → ℕ → Option Item
mapped x off = cond (eqb (off % 4) 0) (mapped_item x (decode (rows x) off)) None

-- group 6: bits 31-0 are the encoding; each listed one is below 2^16, so bits 31-16 not 0 is unknown. The vCPU is named by the view of its frame
unfoldable pub system_item : View → SystemRegister → Option Item
system_item x (Both p) = Some (System x p)
system_item x (Read r) = None
system_item x (Write w) = None
system_item x Unnamed = None

unfoldable pub item : RegisterGroup → ℕ → List ℕ → Option Item
item Distributor a s = mapped view.Distributor (low a)
item Redistributor a s = mapped (view.Frame (index_of s (high a))) (low a)
item Interface a s = system_item (view.Frame (index_of s (high a))) (system (low a))
item Lines a s = cond (ltb (low a) 32) (Some (Mapped (view.Frame (index_of s (high a))) (Bits flags.Lines) 0)) (Some (Mapped view.Distributor (Bits flags.Lines) (low a / 32)))

unfoldable pub known : Option Item → Bool
known (Some (Mapped x r k)) = true
known (Some (System x p)) = true
known None = false

-- ---- values

-- an IIDR write of another value is refused
unfoldable pub register_takes : Register → ℕ → Bool
register_takes (Fixed c) x = true
register_takes Control x = true
register_takes Typer x = true
register_takes Iidr x = eqb x iidr
register_takes Status x = true
register_takes (Bits f) x = true
register_takes Priority x = true
register_takes Config x = true
register_takes Route x = true
register_takes FrameTyper x = true
register_takes FrameAffinity x = true

-- not above 2^32 - 1 in groups 1, 5, 7, nor an IIDR, CTLR or SRE value that is refused
unfoldable pub takes : Option Item → ℕ → Bool
takes (Some (Mapped x r k)) value = ltb value (2 ^ 32) && register_takes r value
takes (Some (System x p)) value = plain_takes p value
takes None value = true

unfoldable pub item_read : List ℕ → Option Item → ℕ
item_read s (Some (Mapped x r k)) = read by.Attribute s x r k
item_read s (Some (System x p)) = plain_read by.Attribute s (seen_by x) p
item_read s None = 0

unfoldable pub item_write : List ℕ → Option Item → ℕ → List ℕ
item_write s (Some (Mapped x r k)) value = write by.Attribute s x r k value
item_write s (Some (System x p)) value = plain_write by.Attribute s (seen_by x) p value
item_write s None value = s

-- ---- one attribute of the groups that name registers

pub record Attribute : Type 0 where
  pub group : ℕ
  pub number : ℕ

abbrev pub attr : ℕ → ℕ → Attribute
attr g a = record { group = g; number = a }

unfoldable pub item_in : AttributeGroup → ℕ → List ℕ → Option Item
item_in (Registers q) a s = item q a s
item_in Count a s = None
item_in Initialise a s = None
item_in Unknown a s = None

unfoldable pub item_of : Attribute → List ℕ → Option Item
item_of a s = item_in (group_of a.group) a.number s
