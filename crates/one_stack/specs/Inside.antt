-- The fields of a layout.
use Rattle.one_stack.specs.declared.layout.Layout.TheInside.{Inside}
use Rattle.one_stack.specs.Tables.{AreSmall, Tables}

-- the tables, by the fields
abbrev pub tables_of : Inside → Tables
tables_of a =
    record {
      app = a.app.now;
      cells = a.cells;
      entities = a.entities;
      resources = a.resources;
      rooms = a.rooms.items;
      counts = a.counts.items;
      widths = a.widths;
    }

-- what holds of the fields
abbrev pub IsSmall : Inside → Type 0
IsSmall a = AreSmall (tables_of a)
