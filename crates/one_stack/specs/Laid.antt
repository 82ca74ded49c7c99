-- The tables of an application and a code.
use Rattle.std.specs.Prelude.{◌≡◌, ℕ, ◌+◌, List, length, map}
use Rattle.application.specs.declared.app.App.{App}
use Rattle.chk_base.specs.declared.word.Width.{Width}
use Rattle.one_stack.specs.Built.{plan_of, room_of, table, widths_of}
use Rattle.one_stack.specs.PlainCode.{plain_code}
use Rattle.one_stack.specs.Tables.{Tables, plan_in, seen}
use Rattle.one_stack.specs.TaskForm.{resource_count}
use Rattle.step_ir.specs.declared.code.Code.{Code}
use Rattle.step_ir.specs.declared.code.EntityCode.{EntityCode}
use Rattle.step_ir.specs.Points.{cells_of}
use Rattle.step_ir.specs.Setting.{setting_of}

-- how many points each of these entities has
abbrev pub counts_of : List EntityCode → List ℕ
counts_of entities = map (λ e. length e.points) entities

-- the tables, with these widths
abbrev pub tables_for : App → Code → List Width → Tables
tables_for app code widths =
    record {
      app = app;
      cells = length (cells_of code);
      entities = length app.tasks + length app.routines;
      resources = resource_count app;
      rooms = table ((setting_of app).top + 1) (room_of (setting_of app) (plain_code code) (resource_count app));
      counts = counts_of code.entities;
      widths = widths;
    }

-- the tables give the places of the program that is built
pub record IsLaid (app : App) (code : Code) (t : Tables) : Type 0 where
  pub app_is : t.app ≡ app
  pub setting : seen t ≡ setting_of app
  pub plan : plan_in t ≡ plan_of (setting_of app) (plain_code code) (resource_count app)
  pub entities : t.entities ≡ (setting_of app).entities
  pub widths : t.widths ≡ widths_of (setting_of app) (plain_code code) (resource_count app)
