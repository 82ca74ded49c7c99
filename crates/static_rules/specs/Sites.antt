-- The calls in a body, and its services that take or give back a resource.
use Rattle.std.specs.Prelude.{List, [], ◌∷◌, ◌++◌, map, Option, Some, None}
use Rattle.chk_base.specs.declared.place.Place.{Place}
use Rattle.step_ir.specs.declared.event.Service.{Service}
use Rattle.step_ir.specs.declared.event.Service.TheVariants as services
use Rattle.typed_unit.specs.declared.typed.TypedBranch.{TypedBranch}
use Rattle.typed_unit.specs.declared.typed.TypedStatement.{TypedStatement}
use Rattle.typed_unit.specs.Plain.{PlainStatement, PlainBlock, NoStatement, StatementThen, PlainFunction}
use Rattle.typed_unit.specs.Plain as p
use Rattle.typed_unit.specs.Views.{PlainBranch, branch_of, statement_of, block_of}
use Rattle.static_rules.specs.declared.site.Site.{Site}
use Rattle.static_rules.specs.declared.site.Site.TheVariants as sites

-- the place of the argument of a service, and its own where it has none
abbrev pub argument_at : Place → Option Place → Place
argument_at place None = place
argument_at place (Some argument) = argument

-- `GetResource` or `ReleaseResource`, with its argument at this place
abbrev pub service_sites : Service → Place → List Site
service_sites (services.Get r) place = sites.Use r place ∷ []
service_sites (services.Release r) place = sites.Use r place ∷ []
service_sites _ place = []

abbrev mutual
  -- the sites of a statement in the order of the text
  pub sites_in : PlainStatement → List Site
  sites_in (p.Call place name function arguments taker) = sites.Call function name ∷ []
  sites_in (p.Serve place service argument) = service_sites service (argument_at place argument)
  sites_in (p.If place condition block otherwise) = sites_of block ++ sites_of otherwise
  sites_in (p.While place condition body) = sites_of body
  sites_in (p.For place start condition step body) = sites_of start ++ (sites_of step ++ sites_of body)
  sites_in (p.Block place body) = sites_of body
  sites_in _ = []

  -- the sites of statements one after another
  pub sites_of : PlainBlock → List Site
  sites_of NoStatement = []
  sites_of (StatementThen s ss) = sites_in s ++ sites_of ss

-- the sites of the blocks of branches
abbrev pub branch_sites : List PlainBranch → List Site
branch_sites [] = []
branch_sites (b ∷ bs) = sites_of b.block ++ branch_sites bs

-- the sites of a typed statement, of several, and of typed branches
abbrev pub statement_sites : TypedStatement → List Site
statement_sites s = sites_in (statement_of s)

abbrev pub block_sites : List TypedStatement → List Site
block_sites ss = sites_of (block_of ss)

abbrev pub branches_sites : List TypedBranch → List Site
branches_sites bs = branch_sites (map branch_of bs)

-- the sites of each function
abbrev pub function_bodies : List PlainFunction → List (List Site)
function_bodies fs = map (λ f. sites_of f.body) fs
