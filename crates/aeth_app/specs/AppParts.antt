-- An application of its settings and parts, as the code holds them.
use Rattle.aeth_app.specs.{App.AppData, declared.app.Parts.Parts, declared.app.Settings.Settings}

-- The application with these settings and parts.
abbrev pub app_with : Settings → Parts → AppData
app_with settings parts = record {
  slots = settings.slots;
  detour = settings.detour;
  price = settings.price;
  cores = parts.cores.items;
  connections = parts.connections.items;
  uses = parts.uses.items;
}
