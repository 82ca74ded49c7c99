-- A machine's fields.
use Rattle.std.specs.Prelude.{◌≤◌, length, vec_capacity}
use Rattle.osek_machine.specs.Kept.{Kept, IsKept}
use Rattle.osek_machine.specs.declared.machine.Machine.TheInside.{Inside}

-- what a machine keeps, by its fields
abbrev pub kept_of : Inside → Kept
kept_of a =
    record {
      app = a.app.now;
      code = a.code.now;
      cells = a.cells;
      points = a.points.items;
      held = a.held.items;
      ready = a.ready.items;
      running = a.running;
      active = a.active.items;
      sections = a.sections.items;
      requests = a.requests.items;
      arrivals = a.arrivals;
      stopped = a.stopped;
    }

-- what holds of a machine's fields: there is room for all that may come
pub record IsRoomy (a : Inside) : Type 0 where
  pub kept : IsKept (kept_of a)
  pub ready_room : 128 ≤ vec_capacity a.ready
  pub held_room : 256 ≤ vec_capacity a.held
  pub active_room : 81 ≤ vec_capacity a.active
  pub section_room : 9 ≤ vec_capacity a.sections
  pub value_room : length a.cells ≤ vec_capacity a.values
