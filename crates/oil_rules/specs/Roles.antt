-- What an attribute sets, by its name and the kind of the object that it stands in (OIL 2.5, 2.3).
use Rattle.std.specs.Prelude.{ℕ, Bool, true, false, not, ◌==◌, if◌then◌else◌, List, codes}
use Rattle.std.specs.Str.{bytes_eq}
use Rattle.oil_rules.specs.declared.kind.Kind.{Kind}
use Rattle.oil_rules.specs.declared.kind.Kind.TheVariants as kinds
use Rattle.oil_rules.specs.declared.role.Role.{Role}
use Rattle.oil_rules.specs.declared.role.Role.TheVariants as roles

-- the standard attributes of an OS
unfoldable pub system_role : List ℕ → Role
system_role word =
    if bytes_eq word (codes "STATUS") then roles.Status
    else (if bytes_eq word (codes "STARTUPHOOK") then roles.StartupHook
    else (if bytes_eq word (codes "ERRORHOOK") then roles.ErrorHook
    else (if bytes_eq word (codes "SHUTDOWNHOOK") then roles.ShutdownHook
    else (if bytes_eq word (codes "PRETASKHOOK") then roles.PreTaskHook
    else (if bytes_eq word (codes "POSTTASKHOOK") then roles.PostTaskHook
    else (if bytes_eq word (codes "USEGETSERVICEID") then roles.UseGetServiceId
    else (if bytes_eq word (codes "USEPARAMETERACCESS") then roles.UseParameterAccess
    else (if bytes_eq word (codes "USERESSCHEDULER") then roles.UseResScheduler else roles.Vendor))))))))

-- the standard attributes of a TASK
unfoldable pub task_role : List ℕ → Role
task_role word =
    if bytes_eq word (codes "PRIORITY") then roles.Priority
    else (if bytes_eq word (codes "SCHEDULE") then roles.Schedule
    else (if bytes_eq word (codes "ACTIVATION") then roles.Activation
    else (if bytes_eq word (codes "AUTOSTART") then roles.Autostart
    else (if bytes_eq word (codes "RESOURCE") then roles.Resource
    else (if bytes_eq word (codes "EVENT") then roles.Event
    else (if bytes_eq word (codes "MESSAGE") then roles.Message else roles.Vendor))))))

-- the standard attributes of an ISR
unfoldable pub routine_role : List ℕ → Role
routine_role word =
    if bytes_eq word (codes "CATEGORY") then roles.Category
    else (if bytes_eq word (codes "PRIORITY") then roles.Priority
    else (if bytes_eq word (codes "RESOURCE") then roles.Resource
    else (if bytes_eq word (codes "MESSAGE") then roles.Message else roles.Vendor)))

-- the standard attribute of a RESOURCE
unfoldable pub resource_role : List ℕ → Role
resource_role word = if bytes_eq word (codes "RESOURCEPROPERTY") then roles.ResourceProperty else roles.Vendor

-- what an attribute of this name sets in an object of this kind; `Vendor` where it isn't standard there
abbrev pub role_of : Kind → List ℕ → Role
role_of kinds.Os word = system_role word
role_of kinds.Task word = task_role word
role_of kinds.Isr word = routine_role word
role_of kinds.Resource word = resource_role word
role_of _ word = roles.Vendor

-- roles are told apart by these numbers
abbrev pub role_number : Role → ℕ
role_number roles.Status = 0
role_number roles.StartupHook = 1
role_number roles.ErrorHook = 2
role_number roles.ShutdownHook = 3
role_number roles.PreTaskHook = 4
role_number roles.PostTaskHook = 5
role_number roles.UseGetServiceId = 6
role_number roles.UseParameterAccess = 7
role_number roles.UseResScheduler = 8
role_number roles.Priority = 9
role_number roles.Schedule = 10
role_number roles.Activation = 11
role_number roles.Autostart = 12
role_number roles.Resource = 13
role_number roles.Event = 14
role_number roles.Message = 15
role_number roles.Category = 16
role_number roles.ResourceProperty = 17
role_number roles.Vendor = 18

-- it is this role
unfoldable pub is_role : Role → Role → Bool
is_role r s = role_number r == role_number s

-- it is one of the five hooks
abbrev pub is_hook : Role → Bool
is_hook roles.StartupHook = true
is_hook roles.ErrorHook = true
is_hook roles.ShutdownHook = true
is_hook roles.PreTaskHook = true
is_hook roles.PostTaskHook = true
is_hook _ = false

-- it may stand only once in an object
abbrev pub is_single : Role → Bool
is_single roles.Resource = false
is_single roles.Event = false
is_single roles.Message = false
is_single roles.Vendor = false
is_single _ = true
