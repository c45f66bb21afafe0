-- All the sentences, proved. Assumes nothing.
use mathlib.Core.Path.{refl}
use Rattle.history.specs.Sentences.{OnBreaches, OnHandles, OnBuffers, OnLines, OnClasses, OnIdentities, OnRefusals, OnLeaks, OnInput, OnReplies, ShutOut}
use Rattle.history.proofs.Living.{living_are, local_alive, shared_alive}
use Rattle.history.proofs.Acts.{enter_items, call_items, leave_items, return_items, enter_frames, enter_capacities, enter_pending, pop_frames, pop_nothing, pop_capacities, return_pending, call_pending, push_frames, enter_monitors, exit_monitors, other_status_frames, other_status_capacities, other_status_monitors}
use Rattle.history.proofs.Arguments.{enter_alive}
use Rattle.history.proofs.Attached.{attach_items, attach_frames, attach_capacities, attach_pending, detach_items, detach_frames, detach_locals, detach_monitors, attached_closes}
use Rattle.history.proofs.Stacks.{attached_lowest}
use Rattle.history.proofs.Changes.{nothing_at_start, items_kept, frames_kept, capacities_kept, pending_kept, monitors_kept}
use Rattle.history.proofs.Breaches.{breaches_are}
use Rattle.history.proofs.Findings.{findings_are, findings_ordered, found_once}
use Rattle.history.proofs.Most.{one_a_place, at_most}
use Rattle.history.proofs.Once.{alive_once, local_placed, shared_kind}
use Rattle.history.proofs.Leaks.{leaks_by_kind}
use Rattle.history.proofs.LeakOrder.{leaks_in_order, of_one_line}
use Rattle.history.proofs.Buffers.{gets_are, releases_are, got_and_released}
use Rattle.history.proofs.Families.{families_agree, paired, of_its_thread, of_no_thread}
use Rattle.history.proofs.Capacities.{capacities_fit}
use Rattle.history.proofs.Calls.{matching_call, matching_push, matching_ensure, native_closes, nothing_of_it_lives}
use Rattle.history.proofs.Kept.{capacities_close}
use Rattle.history.proofs.Others.{other_threads}
use Rattle.history.proofs.Envs.{env_of_first, no_env, envs_apart}
use Rattle.history.proofs.Accepting.{accepted_before}
use Rattle.history.proofs.Classes.{known_are, leads_are, one_super, never_round}
use Rattle.history.proofs.Stated.{class_is, state_class, made_class, class_kept, class_ended, class_named, declares_alone}
use Rattle.history.proofs.Wanted.{suits_are, writes_are}
use Rattle.history.proofs.Identities.{identity_is, stated_last, identity_kept, never_ended, identities_are, identities_once, identify_alone}
use Rattle.history.proofs.Stating.{states_alone, nothing_else}
use Rattle.history.proofs.Refusals.{refusal_is, seven_is_room, within_room, never_eight}
use Rattle.history.proofs.Rooms.{run_more}
use Rattle.history.proofs.Replies.{verdict_is, after_Z, heard_accepted, refusal_changes_nothing, refused_number, told_all, whole_run, run_told}
use Rattle.history.proofs.Cut.{lines_joined, lines_cut}
use Rattle.history.proofs.Report.{end_counts, refused_word, closed_word, open_word}
use Rattle.history.proofs.ShutOut.{not_always_refused, not_one_reply, each_letter, attached_accepted, statements_accepted, not_first_only}

pub on_breaches : OnBreaches
on_breaches =
    record { breaches_are = breaches_are; findings_are = findings_are; findings_ordered = findings_ordered; found_once = found_once; one_a_place = one_a_place; at_most = at_most; leaks_by_kind = leaks_by_kind }

pub on_handles : OnHandles
on_handles =
    record { living_are = living_are; local_alive = local_alive; shared_alive = shared_alive; alive_once = alive_once; local_placed = local_placed; shared_kind = shared_kind }

pub on_buffers : OnBuffers
on_buffers = record { gets_are = gets_are; releases_are = releases_are; got_and_released = got_and_released; families_agree = families_agree; paired = paired; of_its_thread = of_its_thread; of_no_thread = of_no_thread }

pub on_lines : OnLines
on_lines =
    record {
      named = (refl, refl, refl, refl, refl, refl, refl, refl);
      nothing_at_start = nothing_at_start;
      enter_items = enter_items;
      call_items = call_items;
      leave_items = leave_items;
      return_items = return_items;
      enter_frames = enter_frames;
      enter_capacities = enter_capacities;
      enter_alive = enter_alive;
      enter_pending = enter_pending;
      attach_items = attach_items;
      attach_frames = attach_frames;
      attach_capacities = attach_capacities;
      attach_pending = attach_pending;
      detach_items = detach_items;
      detach_frames = detach_frames;
      detach_locals = detach_locals;
      detach_monitors = detach_monitors;
      pop_frames = pop_frames;
      pop_nothing = pop_nothing;
      pop_capacities = pop_capacities;
      return_pending = return_pending;
      call_pending = call_pending;
      push_frames = push_frames;
      matching_push = matching_push;
      matching_ensure = matching_ensure;
      enter_monitors = enter_monitors;
      exit_monitors = exit_monitors;
      other_status_frames = other_status_frames;
      other_status_capacities = other_status_capacities;
      other_status_monitors = other_status_monitors;
      items_kept = items_kept;
      frames_kept = frames_kept;
      capacities_kept = capacities_kept;
      pending_kept = pending_kept;
      monitors_kept = monitors_kept;
      capacities_fit = capacities_fit;
      matching_call = matching_call;
      native_closes = native_closes;
      capacities_close = capacities_close;
      nothing_of_it_lives = nothing_of_it_lives;
      attached_closes = attached_closes;
      attached_lowest = attached_lowest;
      other_threads = other_threads;
      env_of_first = env_of_first;
      no_env = no_env;
      envs_apart = envs_apart;
    }

pub on_classes : OnClasses
on_classes =
    record {
      reserved_classes = (refl, refl, refl, refl, refl);
      known_are = known_are;
      leads_are = leads_are;
      one_super = one_super;
      never_round = never_round;
      class_is = class_is;
      state_class = state_class;
      made_class = made_class;
      class_kept = class_kept;
      class_ended = class_ended;
      class_named = class_named;
      declares_alone = declares_alone;
      states_alone = states_alone;
      nothing_else = nothing_else;
    }

pub on_identities : OnIdentities
on_identities =
    record {
      sorts = (refl, refl);
      suits_are = suits_are;
      writes_are = writes_are;
      identity_is = identity_is;
      stated_last = stated_last;
      identity_kept = identity_kept;
      never_ended = never_ended;
      identities_are = identities_are;
      identities_once = identities_once;
      identify_alone = identify_alone;
    }

pub on_refusals : OnRefusals
on_refusals =
    record { refusal_is = refusal_is; seven_is_room = seven_is_room; within_room = within_room; never_eight = never_eight; accepted_before = accepted_before; run_more = run_more }

pub on_leaks : OnLeaks
on_leaks = record { in_order = leaks_in_order; of_one_line = of_one_line }

pub on_input : OnInput
on_input = record { lines_joined = lines_joined; lines_cut = lines_cut }

pub on_replies : OnReplies
on_replies =
    record {
      verdict_is = verdict_is;
      after_Z = after_Z;
      heard_accepted = heard_accepted;
      refusal_changes_nothing = refusal_changes_nothing;
      refused_number = refused_number;
      told_all = told_all;
      whole_run = whole_run;
      run_told = run_told;
      end_counts = end_counts;
      refused_word = refused_word;
      closed_word = closed_word;
      open_word = open_word;
    }

pub shut_out : ShutOut
shut_out = record { not_always_refused = not_always_refused; not_one_reply = not_one_reply; each_letter = each_letter; attached_accepted = attached_accepted; statements_accepted = statements_accepted; not_first_only = not_first_only }
