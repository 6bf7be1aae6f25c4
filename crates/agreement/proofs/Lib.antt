mod Carried
mod Agreed
