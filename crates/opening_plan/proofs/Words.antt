-- The words of this crate's proofs, from where they stand.
pub use Rattle.list_laws.proofs.Std.{Bool, List, [], ap, append-nil, append_assoc, arith, both_ways, drop, false, flat_map, flat_map-append, get_or, inl, inr, length, map, map-append, max, min, on_ok_weaker, range_with_len, refl, reverse, slice_get, subst, sym, take, true, ℕ, ◌*◌, ◌++◌, ◌+◌, ◌-◌, ◌<◌, ◌^◌, ◌∙◌, ◌∷◌, ◌≡◌, ◌≤◌, nat_tests}
pub use Rattle.std.proofs.Common.{◌==◌}
pub use Rattle.std.proofs.Math.Seq.{take_all}
pub use Rattle.dataset_start.proofs.Keeping.{kept_created, kept_hints, kept_wr_buffer}
pub use Rattle.dataset_start.proofs.ReadyLaws.{no_extras, some_extras, start-created}
pub use Rattle.dataset_start.proofs.Redefinable.{redefined_sound}
pub use Rattle.dataset_start.proofs.RedefinedLaws.{long_enough, records_kept, same_end}
pub use Rattle.dataset_start.specs.Dataset.{IsKept}
pub use Rattle.dataset_start.specs.Readiness.{blank_file, dataset_end, empty_end, fill_calls_if, filled_if, first_calls}
pub use Rattle.fill_records.proofs.TornLaws.{filled_long}
pub use Rattle.fill_records.proofs.VariableLaws.{fill_stores_more, fixed_end, fixed_stores, got, known_at, record_stores}
pub use Rattle.fill_records.specs.Filling.{variable_stores}
pub use Rattle.list_laws.proofs.Common.{and_first, and_second, holds_or_not, if_some_at, range_append}
pub use Rattle.list_laws.proofs.Types.{DiskCall, Extra, Grow, Header, Load, Script, Store}
pub use Rattle.opening_plan.specs.Opening.{AreLow, added_calls, carry_calls}
pub use Rattle.overlay_laws.proofs.Common.{In, count_is, stores_before}
pub use Rattle.redef_laws.proofs.MovedLaws.{writable_is_sound}
pub use Rattle.redef_laws.specs.Applied.{IsApplied}
pub use Rattle.redef_laws.specs.RisingSlabs.{gaps, rising}
pub use Rattle.redef_laws.specs.Shifted.{new_end}
pub use Rattle.redef_mover.proofs.AppliedLaws.{HasLaws, has_laws, relocated}
pub use Rattle.redef_mover.proofs.CarryLaws.{carriable_spaced, carried_is}
pub use Rattle.redef_mover.proofs.ClearLaws.{above, fixed_first, gaps_on, next_record, none_after, none_behind, slabs_left, spaced_front, spaced_low, spaced_on}
pub use Rattle.redef_mover.proofs.ListedLaws.{risen_up}
pub use Rattle.redef_mover.proofs.MovesLaws.{below, called_append, fixed_last, fixed_listed, in_record, record_first, record_listed, slab_first}
pub use Rattle.redef_mover.proofs.WindowLaws.{all_called, calls_before, window_called}
pub use Rattle.redef_mover.specs.Moves.{AreSpaced, all_calls, behind, further, gap_calls, gaps_before, listed, slab_calls, slab_of, window_calls}
pub use Rattle.redef_mover.specs.declared.slabs.Shift.{Shift}
pub use Rattle.serial_spec.proofs.Common.{Slab, brought, canon, end_of, fixed_variables, grow_to, head_load, header_len, is_record, is_sound, longer, longer-enough, longer_long, move_calls, opening_calls, redefined, redefining_calls, slab, start, stores, within_is, zero_calls}
pub use Rattle.var_layout.proofs.ElementPlaces.{sound_end}
pub use Rattle.var_layout.proofs.Soundness.{header_short, if_there}
