-- A field ends at its first space, or with the line.
use Rattle.console.proofs.Spaces.{ends_inside, ends_last}
use Rattle.console.proofs.parse.field_end.Goals as goal

pub returns-in-Some-clause-place : goal.returns-in-Some-clause-place
returns-in-Some-clause-place c = ends_inside _ _ c.requires _ c.space_in.ensures _ c.in-Some.is

pub returns-in-None-clause-place : goal.returns-in-None-clause-place
returns-in-None-clause-place c = ends_last _ _ c.requires _ c.space_in.ensures c.in-None.is
