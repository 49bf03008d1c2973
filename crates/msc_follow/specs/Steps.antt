-- Steps between the events of a chart: what comes before what in each whole run that keeps the drawn
-- order. They are this project's own.
use Rattle.std.specs.Prelude.{ℕ, Bool, ◌&&◌, ◌||◌, nat_eq}
use Rattle.msc_chart.specs.Charts.{partner, is_output, before}
use Rattle.msc_chart.specs.Orders.{WiredChart, queue}

-- y is the input of output x
unfoldable pub is_sent : WiredChart → ℕ → ℕ → Bool
is_sent chart x y = is_output chart.events x && nat_eq (partner chart.events x) y

-- x and y are outputs of one queue, and the input of x is drawn before the input of y: so x has to be
-- ahead of y in their queue
unfoldable pub is_ahead : WiredChart → ℕ → ℕ → Bool
is_ahead chart x y =
    (is_output chart.events x && is_output chart.events y)
    && (nat_eq (queue chart x) (queue chart y) && before chart.events (partner chart.events x) (partner chart.events y))

-- a step leads from x to y
unfoldable pub leads : WiredChart → ℕ → ℕ → Bool
leads chart x y = is_sent chart x y || (before chart.events x y || is_ahead chart x y)
