-- A window as what is told of it. (own)
use Rattle.std.specs.Prelude.{ℕ, Bool}
use Rattle.file_domains.specs.declared.walk.Window.{Window}

-- the hull's first byte, its length, and whether it has no hole
abbrev pub told_window : Window → ℕ × ℕ × Bool
told_window w = (w.hull.at, w.hull.len, w.full)
