-- What a plan that is told link by link is, and when it takes one more link. Assumes nothing.
use Rattle.std.specs.Prelude.{ℕ, ◌-◌, Bool, cond, ◌&&◌, List, [], ◌∷◌, ◌++◌, map, length, Some, None, filter, Option, Result, ◌==◌, nat_le, nat_lt, slice_index_or}
use Rattle.model.specs.Layouts.{Layout, from_ports}
use Rattle.model.specs.declared.fault.DrawFault.{DrawFault}
use Rattle.model.specs.declared.fault.DrawFault.TheVariants as fault
use Rattle.model.specs.Answers.{answered}
use Rattle.plans.specs.declared.table.Link.{Link}

-- the size, the root and the links in the order in which they were told
pub record Cabling : Type 0 where
  pub size : ℕ
  pub root : ℕ
  pub links : List Link

-- nothing told yet
abbrev pub unlinked : ℕ → ℕ → Cabling
unlinked n r = record { size = n; root = r; links = [] }

-- the link starts at v
abbrev pub starts_at : ℕ → Link → Bool
starts_at v l = l.from == v

-- where the link leads
abbrev pub end_of : Link → ℕ
end_of l = l.to

-- where the links that start at v lead, in their order
abbrev pub leads_from : List Link → ℕ → List ℕ
leads_from links v = map end_of (filter (starts_at v) links)

-- the plan in which port i of v is the i-th link from v
abbrev pub cabled : Cabling → Layout
cabled c = from_ports c.size c.root (leads_from c.links)

-- what a place past the last link reads as
abbrev pub no_link : Link
no_link = record { from = 0; to = 0 }

-- where the last link starts, 0 where there is none
abbrev pub last_start : List Link → ℕ
last_start links = (slice_index_or links (length links - 1) no_link).from

-- a link from u to w may come next: its ends are vertices, it starts no lower than the last one, and fewer than 1,023 start at u
abbrev pub may_follow : Cabling → ℕ → ℕ → Bool
may_follow c u w = nat_lt u c.size && (nat_lt w c.size && (nat_le (last_start c.links) u && nat_lt (length (leads_from c.links u)) 1023))

-- why the link is refused: it is the 4,097th, or else it may not come next
abbrev pub link_fault : Cabling → ℕ → ℕ → Option DrawFault
link_fault c u w = cond (nat_lt (length c.links) 4096) (cond (may_follow c u w) None (Some fault.Link)) (Some fault.Limit)

-- the cabling with the link behind the others, and as it was where there is a fault
abbrev pub told : Option DrawFault → Cabling → Link → Cabling
told None c l = record { size = c.size; root = c.root; links = c.links ++ (l ∷ []) }
told (Some e) c l = c

-- what telling the link from u to w answers, and the cabling after
abbrev pub linked : Cabling → ℕ → ℕ → Result (Unit {0}) DrawFault × Cabling
linked c u w = (answered (link_fault c u w) tt, told (link_fault c u w) c (record { from = u; to = w }))
