-- What the whole of a CPU section says, as far as the rules on single attributes ask.
use Rattle.std.specs.Prelude.{List}
use Rattle.std.specs.List.{list_any}
use Rattle.oil_tree.specs.declared.tree.Item.{Item}
use Rattle.oil_rules.specs.declared.group.Group.TheVariants as groups
use Rattle.oil_rules.specs.declared.known.Known.{Known}
use Rattle.oil_rules.specs.Names.{distinct}
use Rattle.oil_rules.specs.Objects.{texts_in, lacks_scheduler}

-- the names of the resources, of the internal ones and of the modes, each once, and whether USERESSCHEDULER is FALSE
unfoldable pub known_of : List Item → Known
known_of these =
    record {
      resources = distinct (texts_in groups.Resources these);
      internals = distinct (texts_in groups.Internals these);
      modes = distinct (texts_in groups.Modes these);
      no_scheduler = list_any lacks_scheduler these;
    }
