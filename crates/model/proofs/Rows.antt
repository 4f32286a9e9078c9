-- Examples as rows of a table, what is asked and what must come, and the test that computes them through `call`.
use Prim.Native.Nat.{ℕ, suc}
use mathlib.Core.Bool.{Bool, true, false, ◌&&◌}
use mathlib.Core.List.{List, [], ◌∷◌}
use lib.Dec.{eqb}
use lib.IntN.{ℤ, pos, negsuc}
use lib.ListN.{get_or}
use Rattle.model.specs.Words.{bit, gather, with_bit, within, masked, lowest, all_below, every, each}
use Rattle.model.specs.Roles.{with_derived, derived_ok}
use Rattle.model.specs.Interrupts.{is_private, is_ppi, is_spi, exists, pending, set_flag}
use Rattle.model.specs.Sound.{entry, used_bits, fresh_bits, allowed_bits, fits, word_ok, is_count, setup, is_affinity, unused, vcpu_ok, core, sound, stopped, fresh}
use Rattle.model.specs.Refusals.{errno, number, first_failing}
use Rattle.model.specs.Registers.{in_row, decode, rows, flags, shown_to, rule_for, shows, flag_after, has, seen_by, read_flags, read_priority, read_config, read_route, status_at, frame_typer, read, write_flags, write_priority, write_config, write_route, written_status, write, access, by_byte, read_access, write_access, guest_read, guest_write}
use Rattle.model.specs.Lines.{latches, line_changed}
use Rattle.model.specs.Interface.{system_in, system, plain_read, plain_write, plain_takes, own_or_routed, group_on, candidate, rank, better, scan, best, cleared_bits, group_priority, running_level, running_priority, of_group, gives, offered, level_of, set_level, taken, level_clear, acknowledged, highest_pending, signal, dropped, ended, deactivated, named, targets, reaches, sgi_sent, system_read, system_read_next, system_read_clear, system_write}
use Rattle.model.specs.Attributes.{group_of, index_of, number_ok, affinity_known, mapped_item, mapped, system_item, item, known, register_takes, takes, item_read, item_write, item_in, item_of}
use Rattle.model.specs.Record.{groups_of, encode, more, read_groups, decode_number, of_spi_word, of_route, of_vcpu_block, listed, entries, entry_read, entry_bytes, record_of, saved, readable, entry_put, taking, load, restored, faults, loaded_state}
use Rattle.model.specs.Calls.{Call, call, guest_checks, frame_checks, read_phase, read_checks, write_checks, has_line, register_checks, get_checks, set_checks, refusal, system_value, get_value, made, vcpu_added, initialised_next, system_read_state, system_write_state, set_state, settle, front_of, handed_back, after, trace, describe}

-- the first call of a row is made on the state that the test is given; each other gets the state that the last one left
pub data Row : Type 0 where
  -- the calls answer these numbers
  answer : List Call → List ℤ → Row
  -- after the calls, one more hands back these bytes
  hands : List Call → Call → List ℕ → Row
  -- after the calls, one more leaves these bytes in its whole buffer
  fills : List Call → Call → List ℕ → Row
  -- after the calls, one more changes no word
  keeps : List Call → Call → Row
  -- two lists of numbers are the same
  same : List ℕ → List ℕ → Row

unfoldable pub is_same_number : ℤ → ℤ → Bool
is_same_number (pos a) (pos b) = eqb a b
is_same_number (pos a) (negsuc b) = false
is_same_number (negsuc a) (pos b) = false
is_same_number (negsuc a) (negsuc b) = eqb a b

unfoldable pub same_words : List ℕ → List ℕ → Bool
same_words [] [] = true
same_words [] (y ∷ ys) = false
same_words (x ∷ xs) [] = false
same_words (x ∷ xs) (y ∷ ys) = eqb x y && same_words xs ys

unfoldable pub answered : List Call → List ℤ → List ℕ → Bool
answered [] [] s = true
answered [] (r ∷ rs) s = false
answered (c ∷ cs) [] s = false
answered (c ∷ cs) (r ∷ rs) s = let o = call c s in is_same_number o.answer r && answered cs rs o.state

unfoldable pub meets : List ℕ → Row → Bool
unfolding describe is_same_number same_words answered bit gather with_bit within masked lowest all_below every each is_private is_ppi is_spi exists pending set_flag entry used_bits fresh_bits allowed_bits fits word_ok is_count setup is_affinity unused vcpu_ok core sound stopped fresh with_derived derived_ok errno number first_failing in_row decode rows flags shown_to rule_for shows flag_after has seen_by read_flags read_priority read_config read_route status_at frame_typer read write_flags write_priority write_config write_route written_status write access by_byte read_access write_access guest_read guest_write latches line_changed system_in system plain_read plain_write plain_takes own_or_routed group_on candidate rank better scan best cleared_bits group_priority running_level running_priority of_group gives offered level_of set_level taken level_clear acknowledged highest_pending signal dropped ended deactivated named targets reaches sgi_sent system_read system_read_next system_read_clear system_write group_of index_of number_ok affinity_known mapped_item mapped system_item item known register_takes takes item_read item_write item_in item_of groups_of encode more read_groups decode_number of_spi_word of_route of_vcpu_block listed entries entry_read entry_bytes record_of saved readable entry_put taking load restored faults loaded_state call guest_checks frame_checks read_phase read_checks write_checks has_line register_checks get_checks set_checks refusal system_value get_value made vcpu_added initialised_next system_read_state system_write_state set_state settle front_of handed_back after trace
meets s (answer cs rs) = answered cs rs s
meets s (hands cs c bytes) = same_words (handed_back (call c (after cs s))) bytes
meets s (fills cs c bytes) = same_words (get_or (call c (after cs s)).buffers 0 []) bytes
meets s (keeps cs c) = let t = after cs s in same_words (call c t).state t
meets s (same xs ys) = same_words xs ys

-- the number, from 1, of the first row that is not met; 0 if all are
unfoldable pub unmet : List ℕ → ℕ → List Row → ℕ
unfolding meets
unmet s i [] = 0
unmet s i (r ∷ rs) = elim (meets s r) [ true ↦ unmet s (suc i) rs | false ↦ i ]
