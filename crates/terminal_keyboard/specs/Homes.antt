-- Names of host files as a person types them: a tilde in front stands for the home folder.
use Rattle.std.specs.Prelude.{ℕ, Bool, true, false, ◌==◌, ◌&&◌, if◌then◌else◌, List, [], ◌∷◌, ◌++◌, is_some}
use Rattle.std.specs.Prelude.{Option, Some, None}
use Rattle.host_files.specs.declared.HostFault.{HostFault}
use Rattle.host_files.specs.declared.HostFault.TheVariants.{Missing, NoHome}

-- what stands behind a tilde: nothing, or a slash and what follows
abbrev pub rest_behind : List ℕ → Option (List ℕ)
rest_behind [] = Some []
rest_behind (b ∷ more) = if b == 47 then Some (b ∷ more) else None

-- what stands behind the tilde of a name that is in the home folder, or is that folder
abbrev pub behind_home : List ℕ → Option (List ℕ)
behind_home [] = None
behind_home (b ∷ rest) = if b == 126 then rest_behind rest else None

abbrev pub path_in : List ℕ → List ℕ → Option (List ℕ) → List ℕ
path_in folder name None = name
path_in folder name (Some rest) = folder ++ rest

-- the path that is meant by a name: without a home folder it is taken as it is
abbrev pub path_meant : Option (List ℕ) → List ℕ → List ℕ
path_meant None name = name
path_meant (Some folder) name = path_in folder name (behind_home name)

-- Why a file isn't opened that a person has named: where there is none, a tilde may have stood for no folder.
abbrev pub cause_of : HostFault → Bool → List ℕ → HostFault
cause_of Missing is_homeless name =
    if is_homeless && is_some (behind_home name) then NoHome else Missing
cause_of fault is_homeless name = fault
